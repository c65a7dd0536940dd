-- A call on a valid record is done, or refused with a number below 15. Assumes nothing.
use Rattle.std.specs.Prelude.{Option, None, Some, Result, Ok, Err}
use mathlib.Core.Path.{◌≡◌}
use mathlib.Core.Bool.{Bool, true, false, not, cond}
use Prim.Native.Nat.{ℕ, ◌<◌}
use native.Mathlib.Omega.{arith}
use lib.Dec.{leb, ltb, eqb}
use Rattle.lease.specs.Operations.{bad_size}
use Rattle.lease.specs.Types.{Bitmap, Reading}
use Rattle.lease.specs.declared.Answered.{Answered}
use Rattle.lease.specs.declared.Refusal.{Refusal}
use Rattle.lease.specs.declared.Refusal.TheVariants as R
use Rattle.lease.specs.declared.Lines.{Lines}
use Rattle.lease.specs.declared.LeaseNotice.{LeaseNotice}
use Rattle.lease.specs.declared.LeaseNotice.TheVariants as N
use Rattle.lease.specs.declared.Manager.{Manager}
use Rattle.lease.specs.declared.Advanced.{Advanced}
use Rattle.lease.specs.Limits.{reading_valid}
use Rattle.lease.specs.Notices.{accepted_of}
use Rattle.lease.specs.Calls.{advance_to, assume_unknown_grants, attempt_refresh, set_drift, grant_set, lease_set, lease_cnt, time_left}
use Rattle.lease.specs.RecordCheck.{record_valid}
use Rattle.lease.specs.Refusals.{refusal_number, peer_refusal, set_refusal, notice_refusal, advance_refusal, refresh_refusal, judged}
use Rattle.lease.specs.Rules.{notice_given, notice_of, advance_of, quiet_of, refresh_of, drift_of, grant_set_of, lease_set_of, lease_cnt_of, time_left_of}
use Rattle.lease.specs.Verdicts.{Call, notice, advance, quiet-start, refresh, drift, grant-set, lease-set, lease-cnt, time-left, Verdict, refused, done, by_notice, by_advance, by_plain, by_set, by_count, by_time_left, verdict}
use Rattle.lease.proofs.Judged.{plain_of}
use Rattle.reachable.proofs.Numbers.{never}

-- the number of a verdict, and of a call's own refusal; 0 where there is none
abbrev pub number_in : Verdict → ℕ
number_in (refused k) = refusal_number k
number_in (done l m) = 0

abbrev own : Result (Unit {0}) Refusal → ℕ
own (Ok x) = 0
own (Err k) = refusal_number k

-- ---- each call's own refusals

peer-own : (n me id : ℕ) → own (peer_refusal n me id) < 15
peer-own n me id = go (leb n id) (eqb id me)
  where
    go : (a b : Bool) → own (cond a (Err R.PeerNotBelowPopulation) (cond b (Err R.PeerIsOwn) (Ok tt))) < 15
    go true b = omega arith
    go false true = omega arith
    go false false = omega arith

set-own : (n : ℕ) (set : Option Bitmap) → own (set_refusal n set) < 15
set-own n None = omega arith
set-own n (Some b) = go (eqb b.size n)
  where
    go : (a : Bool) → own (cond a (Ok tt) (Err R.SetSizeNotPopulation)) < 15
    go true = omega arith
    go false = omega arith

notice-own : (n me : ℕ) (x : LeaseNotice) → own (notice_refusal n me x) < 15
notice-own n me (N.NewGrants set bar) = set-own n set
notice-own n me (N.DoRevoke set) = set-own n set
notice-own n me N.ClearHeld = omega arith
notice-own n me (N.RecvLeaseMsg id msg) = peer-own n me id
notice-own n me (N.GrantTimeout id) = peer-own n me id
notice-own n me (N.LeaseTimeout id) = peer-own n me id

advance-own : (now to : Reading) → own (advance_refusal now to) < 15
advance-own now to = go (reading_valid to) (ltb to.0 now.0)
  where
    go : (a b : Bool) → own (cond (not a) (Err R.ReadingTooHigh) (cond b (Err R.ReadingBelowPresent) (Ok tt))) < 15
    go false b = omega arith
    go true true = omega arith
    go true false = omega arith

refresh-own : (set : Option Bitmap) → own (refresh_refusal set) < 15
refresh-own None = omega arith
refresh-own (Some b) = go (bad_size b.size)
  where
    go : (a : Bool) → own (cond a (Err R.SetSizeOutOfRange) (Ok tt)) < 15
    go true = omega arith
    go false = omega arith

-- ---- the verdict

judged-own : {A : Type 0} (P : A → Type 0) (valid : Bool) (check : Result (Unit {0}) Refusal) (refusal : Refusal → A) (given : A) → valid ≡ true → own check < 15
    → ((k : Refusal) → refusal_number k < 15 → P (refusal k)) → P given → P (judged valid check refusal given)
judged-own P true (Ok x) refusal given e h r d = d
judged-own P true (Err k) refusal given e h r d = r k h
judged-own P false check refusal given e h r d = never e

module _ (m : Manager) (v : record_valid m ≡ true) where
  plain-below : (next : Manager) → number_in (by_plain (plain_of m next).outcome (plain_of m next).manager) < 15
  plain-below next =
      judged-own (λ (a : Answered (Unit {0})). number_in (by_plain a.outcome a.manager) < 15) (record_valid m) (Ok tt)
      (λ k. record { outcome = Err k; manager = m }) (record { outcome = Ok tt; manager = next }) v (omega arith) (λ k h. h) (omega arith)

  set-below : (set : Bitmap) → number_in (by_set (judged (record_valid m) (Ok tt) (λ k. Err k) (Ok set)) m) < 15
  set-below set =
      judged-own (λ (o : Result Bitmap Refusal). number_in (by_set o m) < 15) (record_valid m) (Ok tt) (λ k. Err k) (Ok set) v (omega arith) (λ k h. h) (omega arith)

  pub number-below : (c : Call) → number_in (verdict m c) < 15
  unfolding notice_of advance_of advance_to quiet_of refresh_of attempt_refresh drift_of grant_set_of lease_set_of lease_cnt_of time_left_of
  number-below (notice num x) =
      judged-own (λ (a : Answered Lines). number_in (by_notice a.outcome a.manager) < 15) (record_valid m) (notice_refusal m.population m.me x)
      (λ k. record { outcome = Err k; manager = m }) (notice_given (accepted_of m num x)) v (notice-own m.population m.me x) (λ k h. h) (omega arith)
  number-below (advance to) =
      judged-own (λ (a : Answered Advanced). number_in (by_advance a.outcome a.manager) < 15) (record_valid m) (advance_refusal m.now to)
      (λ k. record { outcome = Err k; manager = m }) (advance_to m to) v (advance-own m.now to) (λ k h. h) (omega arith)
  number-below quiet-start = plain-below (assume_unknown_grants m)
  number-below (refresh set) =
      judged-own (λ (a : Answered Bitmap). number_in (by_set a.outcome a.manager) < 15) (record_valid m) (refresh_refusal set)
      (λ k. record { outcome = Err k; manager = m }) (attempt_refresh m set) v (refresh-own set) (λ k h. h) (omega arith)
  number-below (drift x) = plain-below (set_drift m x)
  number-below grant-set = set-below (grant_set m)
  number-below lease-set = set-below (lease_set m)
  number-below lease-cnt =
      judged-own (λ (o : Result ℕ Refusal). number_in (by_count o m) < 15) (record_valid m) (Ok tt) (λ k. Err k) (Ok (lease_cnt m)) v (omega arith) (λ k h. h) (omega arith)
  number-below (time-left id) =
      judged-own (λ (o : Result (Option ℕ) Refusal). number_in (by_time_left o m) < 15) (record_valid m) (peer_refusal m.population m.me id) (λ k. Err k) (Ok (time_left m id)) v
      (peer-own m.population m.me id) (λ k h. h) (omega arith)
