-- What each call answers or leaves, refused or not, keeps the bounds. Assumes nothing.
use Rattle.std.specs.Prelude.{Option, Result, Ok, Err, ℤ}
use mathlib.Core.Path.{◌≡◌, refl, subst}
use mathlib.Core.Bool.{Bool, true, false}
use Prim.Native.Nat.{ℕ, ◌+◌, ◌≤◌}
use Rattle.lease.specs.Types.{Bitmap, Reading}
use Rattle.lease.specs.declared.Answered.{Answered}
use Rattle.lease.specs.declared.Refusal.{Refusal}
use Rattle.lease.specs.declared.Lines.{Lines}
use Rattle.lease.specs.declared.LeaseNum.{LeaseNum}
use Rattle.lease.specs.declared.LeaseNotice.{LeaseNotice}
use Rattle.lease.specs.declared.Manager.{Manager}
use Rattle.lease.specs.declared.Advanced.{Advanced}
use Rattle.lease.specs.Notices.{accepted_of}
use Rattle.lease.specs.Calls.{advance_to, assume_unknown_grants, attempt_refresh, set_drift}
use Rattle.lease.specs.RecordCheck.{record_valid}
use Rattle.lease.specs.Refusals.{notice_refusal, advance_refusal, refresh_refusal}
use Rattle.lease.specs.Rules.{notice_given, notice_of, advance_of, quiet_of, refresh_of, drift_of, grant_set_of, lease_set_of, lease_cnt_of, time_left_of}
use Rattle.lease.specs.Verdicts.{Call, notice, advance, quiet-start, refresh, drift, grant-set, lease-set, lease-cnt, time-left, by_notice, by_advance, by_plain, by_set, by_count, by_time_left, verdict}
use Rattle.lease.proofs.Judged.{judged-by, plain_of}
use Rattle.reachable.specs.Reachable.{Typed, left_by}
use Rattle.reachable.proofs.Records.{Bounded, accepted-keeps, advance-keeps, quiet-keeps, drift-keeps, refresh-keeps, in-time}

module _ (sent : Bool → ℕ) (held quiet : ℕ) (m : Manager) (i : Bounded sent held quiet m) where
  abbrev Keeps : {A : Type 0} → Answered A → Type 0
  Keeps a = Bounded sent held quiet a.manager

  pub notice-bounded : ((b : Bool) → 2000000000000 ≤ sent b) → 1000000000000 ≤ held → (num : LeaseNum) (x : LeaseNotice) → Keeps (notice_of m num x)
  unfolding notice_of
  notice-bounded w h num x =
      judged-by (λ (a : Answered Lines). Keeps a) (record_valid m) (notice_refusal m.population m.me x)
      (λ k. record { outcome = Err k; manager = m }) (notice_given (accepted_of m num x)) (λ k. i) (accepted-keeps sent held quiet w h m i num x)

  pub advance-bounded : (to : Reading) → Keeps (advance_of m to)
  unfolding advance_of
  advance-bounded to =
      judged-by (λ (a : Answered Advanced). Keeps a) (record_valid m) (advance_refusal m.now to)
      (λ k. record { outcome = Err k; manager = m }) (advance_to m to) (λ k. i) (λ z. let h = in-time m.now to z in advance-keeps sent held quiet m i to h.0 h.1)

  plain-bounded : (next : Manager) → Bounded sent held quiet next → Keeps (plain_of m next)
  plain-bounded next n =
      judged-by (λ (a : Answered (Unit {0})). Keeps a) (record_valid m) (Ok tt)
      (λ k. record { outcome = Err k; manager = m }) (record { outcome = Ok tt; manager = next }) (λ k. i) (λ z. n)

  pub quiet-bounded : 2000000000000 ≤ quiet → Keeps (quiet_of m)
  unfolding quiet_of
  quiet-bounded w = plain-bounded (assume_unknown_grants m) (quiet-keeps sent held quiet m i w)

  pub drift-bounded : (x : Option ℤ) → Typed (drift x) → Keeps (drift_of m x)
  unfolding drift_of
  drift-bounded x f = plain-bounded (set_drift m x) (drift-keeps sent held quiet m i x f)

  pub refresh-bounded : sent true + 1000000000000 ≤ sent false → (set : Option Bitmap) → Keeps (refresh_of m set)
  unfolding refresh_of
  refresh-bounded w set =
      judged-by (λ (a : Answered Bitmap). Keeps a) (record_valid m) (refresh_refusal set)
      (λ k. record { outcome = Err k; manager = m }) (attempt_refresh m set) (λ k. i) (λ z. refresh-keeps sent held quiet m i w set)

-- ---- a call leaves what it answers: after a refusal, the record that went in

module _ (m : Manager) where
  pub left-notice : (num : LeaseNum) (x : LeaseNotice) → (notice_of m num x).manager ≡ left_by m (verdict m (notice num x))
  unfolding notice_of
  left-notice num x =
      judged-by (λ (a : Answered Lines). a.manager ≡ left_by m (by_notice a.outcome a.manager)) (record_valid m) (notice_refusal m.population m.me x)
      (λ k. record { outcome = Err k; manager = m }) (notice_given (accepted_of m num x)) (λ k. refl) (λ z. refl)

  pub left-advance : (to : Reading) → (advance_of m to).manager ≡ left_by m (verdict m (advance to))
  unfolding advance_of advance_to
  left-advance to =
      judged-by (λ (a : Answered Advanced). a.manager ≡ left_by m (by_advance a.outcome a.manager)) (record_valid m) (advance_refusal m.now to)
      (λ k. record { outcome = Err k; manager = m }) (advance_to m to) (λ k. refl) (λ z. refl)

  left-plain : (next : Manager) → (plain_of m next).manager ≡ left_by m (by_plain (plain_of m next).outcome (plain_of m next).manager)
  left-plain next =
      judged-by (λ (a : Answered (Unit {0})). a.manager ≡ left_by m (by_plain a.outcome a.manager)) (record_valid m) (Ok tt)
      (λ k. record { outcome = Err k; manager = m }) (record { outcome = Ok tt; manager = next }) (λ k. refl) (λ z. refl)

  pub left-quiet : (quiet_of m).manager ≡ left_by m (verdict m quiet-start)
  unfolding quiet_of
  left-quiet = left-plain (assume_unknown_grants m)

  pub left-drift : (x : Option ℤ) → (drift_of m x).manager ≡ left_by m (verdict m (drift x))
  unfolding drift_of
  left-drift x = left-plain (set_drift m x)

  pub left-refresh : (set : Option Bitmap) → (refresh_of m set).manager ≡ left_by m (verdict m (refresh set))
  unfolding refresh_of attempt_refresh
  left-refresh set =
      judged-by (λ (a : Answered Bitmap). a.manager ≡ left_by m (by_set a.outcome a.manager)) (record_valid m) (refresh_refusal set)
      (λ k. record { outcome = Err k; manager = m }) (attempt_refresh m set) (λ k. refl) (λ z. refl)

  -- and so does a question
  pub left-set : (o : Result Bitmap Refusal) → m ≡ left_by m (by_set o m)
  left-set (Err k) = refl
  left-set (Ok set) = refl

  pub left-count : (o : Result ℕ Refusal) → m ≡ left_by m (by_count o m)
  left-count (Err k) = refl
  left-count (Ok n) = refl

  pub left-time : (o : Result (Option ℕ) Refusal) → m ≡ left_by m (by_time_left o m)
  left-time (Err k) = refl
  left-time (Ok x) = refl

-- ---- any call, as a reachable record's

pub call-bounded : (sent : Bool → ℕ) (held quiet : ℕ) → ((b : Bool) → 2000000000000 ≤ sent b) → sent true + 1000000000000 ≤ sent false → 1000000000000 ≤ held → 2000000000000 ≤ quiet
    → (m : Manager) → Bounded sent held quiet m → (c : Call) → Typed c → Bounded sent held quiet (left_by m (verdict m c))
call-bounded sent held quiet w r h q m i c f = go c f
  where
    to : {a b : Manager} → a ≡ b → Bounded sent held quiet a → Bounded sent held quiet b
    to e k = subst (λ x. Bounded sent held quiet x) e k

    go : (c : Call) → Typed c → Bounded sent held quiet (left_by m (verdict m c))
    go (notice num x) f = to (left-notice m num x) (notice-bounded sent held quiet m i w h num x)
    go (advance next) f = to (left-advance m next) (advance-bounded sent held quiet m i next)
    go quiet-start f = to (left-quiet m) (quiet-bounded sent held quiet m i q)
    go (refresh set) f = to (left-refresh m set) (refresh-bounded sent held quiet m i r set)
    go (drift x) f = to (left-drift m x) (drift-bounded sent held quiet m i x f)
    go grant-set f = to (left-set m (grant_set_of m)) i
    go lease-set f = to (left-set m (lease_set_of m)) i
    go lease-cnt f = to (left-count m (lease_cnt_of m)) i
    go (time-left id) f = to (left-time m (time_left_of m id)) i
