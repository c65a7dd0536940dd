-- The rules' answers have the numbers of the rule book. Assumes nothing.
use Rattle.std.specs.Prelude.{ℕ, ◌≡◌, Bool, true, false, cond, not, ◌||◌, eqb, ltb, List, [], ◌∷◌, Option, None, Some, Result, Ok, Err, ℤ}
use Rattle.std.proofs.Common.{refl, ◌∙◌}
use Rattle.bitmap.specs.Bitmaps.{capacity}
use Rattle.bitmap.specs.Operations.{bad_size}
use Rattle.bitmap.specs.declared.Bitmap.{Bitmap}
use Rattle.timer.specs.declared.Reading.{Reading}
use Rattle.lease.specs.declared.Answered.{Answered}
use Rattle.lease.specs.declared.LeaseNum.{LeaseNum}
use Rattle.lease.specs.declared.LeaseNotice.{LeaseNotice}
use Rattle.lease.specs.declared.LeaseNotice.TheVariants as N
use Rattle.lease.specs.declared.Manager.{Manager}
use Rattle.lease.specs.declared.Refusal.{Refusal}
use Rattle.lease.specs.declared.Refusal.TheVariants.{SetSizeOutOfRange, InvalidRecord}
use Rattle.lease.specs.Refusals.{peer_refusal, set_refusal, notice_refusal, advance_refusal, refresh_refusal, unless, judged}
use Rattle.lease.specs.Notices.{accepted_of}
use Rattle.lease.specs.Calls.{advance_to, assume_unknown_grants, attempt_refresh, set_drift, grant_set, lease_set, lease_cnt, time_left}
use Rattle.lease.specs.RecordCheck.{record_valid}
use Rattle.lease.specs.SetUp.{setup_refusal, fresh, setup_of}
use Rattle.lease.specs.Rules.{notice_given, notice_of, advance_of, quiet_of, refresh_of, drift_of, grant_set_of, lease_set_of, lease_cnt_of, time_left_of}
use Rattle.lease.specs.Numbers.{number_of, first_due, over_maximum, record_number, setup_number, peer_numbers, set_numbers, notice_numbers, notice_number, advance_number, refresh_numbers, refresh_number, plain_number, time_left_number}

number-cond : (a : Bool) (x y : Result (Unit {0}) Refusal) → number_of (cond a x y) ≡ cond a (number_of x) (number_of y)
number-cond true x y = refl
number-cond false x y = refl

cond-not : (a : Bool) (x y : ℕ) → cond (not a) x y ≡ cond a y x
cond-not true x y = refl
cond-not false x y = refl

-- ---- a call's own refusals
peer_numbered : (m : Manager) (id : ℕ) → number_of (peer_refusal m.population m.me id) ≡ first_due (peer_numbers m id)
peer_numbered m id = simp number-cond

set_numbered : (m : Manager) (set : Option Bitmap) → number_of (set_refusal m.population set) ≡ first_due (set_numbers m set)
set_numbered m None = refl
set_numbered m (Some set) = simp (number-cond, cond-not)

own_numbered : (m : Manager) (x : LeaseNotice) → number_of (notice_refusal m.population m.me x) ≡ first_due (notice_numbers m x)
own_numbered m (N.NewGrants set bar) = set_numbered m set
own_numbered m (N.DoRevoke set) = set_numbered m set
own_numbered m N.ClearHeld = refl
own_numbered m (N.RecvLeaseMsg id msg) = peer_numbered m id
own_numbered m (N.GrantTimeout id) = peer_numbered m id
own_numbered m (N.LeaseTimeout id) = peer_numbered m id

set_size_numbered : (set : Option Bitmap) → number_of (refresh_refusal set) ≡ first_due (refresh_numbers set)
unfolding bad_size
set_size_numbered None = refl
set_size_numbered (Some set) = go (eqb set.size 0) (ltb capacity set.size)
  where
    go : (a b : Bool) → number_of {A = Unit {0}} (cond (a || b) (Err SetSizeOutOfRange) (Ok tt)) ≡ cond a 12 (cond b 12 0)
    go true b = refl
    go false true = refl
    go false false = refl

-- ---- the calls: 15 first
unless_number : {T : Type 0} (check : Result (Unit {0}) Refusal) (m : Manager) (done : Answered T) → number_of done.outcome ≡ 0
    → number_of (unless check (λ k. record { outcome = Err k; manager = m }) done).outcome ≡ number_of check
unless_number (Ok x) m done d = d
unless_number (Err k) m done d = refl

-- a call that answers a record
module _ {T : Type 0} (m : Manager) (check : Result (Unit {0}) Refusal) (own : List (Bool × ℕ)) (e : number_of check ≡ first_due own) where
  kept_number : (done : Answered T) → number_of done.outcome ≡ 0
      → number_of (judged (record_valid m) check (λ k. record { outcome = Err k; manager = m }) done).outcome ≡ record_number m own
  kept_number done d = go (record_valid m)
    where
      go : (b : Bool) → number_of (cond b (unless check (λ k. record { outcome = Err k; manager = m }) done) (record { outcome = Err InvalidRecord; manager = m })).outcome ≡ cond (not b) 15 (first_due own)
      go true = unless_number check m done d ∙ e
      go false = refl

  -- a question
  asked_number : (done : T) → number_of (judged (record_valid m) check (λ k. Err k) (Ok done)) ≡ record_number m own
  asked_number done = go (record_valid m) check e
    where
      go : (b : Bool) (c : Result (Unit {0}) Refusal) → number_of c ≡ first_due own → number_of (cond b (unless c (λ k. Err k) (Ok done)) (Err InvalidRecord)) ≡ cond (not b) 15 (first_due own)
      go true (Ok x) h = h
      go true (Err k) h = h
      go false c h = refl

pub setup_numbered : (me n t heartbeat : ℕ) (now : Reading) → number_of (setup_of me n t heartbeat now).outcome ≡ setup_number me n t heartbeat now
unfolding setup_of
setup_numbered me n t heartbeat now = unless_number (setup_refusal me n t heartbeat now) (fresh 0 0 0 (record { 0 = 0 })) (record { outcome = Ok tt; manager = fresh me n t now }) refl ∙ simp number-cond

module _ (m : Manager) where
  pub notice_numbered : (num : LeaseNum) (x : LeaseNotice) → number_of (notice_of m num x).outcome ≡ notice_number m x
  unfolding notice_of
  notice_numbered num x = kept_number m (notice_refusal m.population m.me x) (notice_numbers m x) (own_numbered m x) (notice_given (accepted_of m num x)) refl

  pub advance_numbered : (to : Reading) → number_of (advance_of m to).outcome ≡ advance_number m to
  unfolding advance_of advance_to
  advance_numbered to = kept_number m (advance_refusal m.now to) ((over_maximum to, 5) ∷ (ltb to.0 m.now.0, 6) ∷ []) (simp number-cond) (advance_to m to) refl

  pub quiet_numbered : number_of (quiet_of m).outcome ≡ plain_number m
  unfolding quiet_of
  quiet_numbered = kept_number m (Ok tt) [] refl (record { outcome = Ok tt; manager = assume_unknown_grants m }) refl

  pub refresh_numbered : (set : Option Bitmap) → number_of (refresh_of m set).outcome ≡ refresh_number m set
  unfolding refresh_of attempt_refresh
  refresh_numbered set = kept_number m (refresh_refusal set) (refresh_numbers set) (set_size_numbered set) (attempt_refresh m set) refl

  pub drift_numbered : (setting : Option ℤ) → number_of (drift_of m setting).outcome ≡ plain_number m
  unfolding drift_of
  drift_numbered setting = kept_number m (Ok tt) [] refl (record { outcome = Ok tt; manager = set_drift m setting }) refl

  pub grant_set_numbered : number_of (grant_set_of m) ≡ plain_number m
  unfolding grant_set_of
  grant_set_numbered = asked_number m (Ok tt) [] refl (grant_set m)

  pub lease_set_numbered : number_of (lease_set_of m) ≡ plain_number m
  unfolding lease_set_of
  lease_set_numbered = asked_number m (Ok tt) [] refl (lease_set m)

  pub lease_cnt_numbered : number_of (lease_cnt_of m) ≡ plain_number m
  unfolding lease_cnt_of
  lease_cnt_numbered = asked_number m (Ok tt) [] refl (lease_cnt m)

  pub time_left_numbered : (id : ℕ) → number_of (time_left_of m id) ≡ time_left_number m id
  unfolding time_left_of
  time_left_numbered id = asked_number m (peer_refusal m.population m.me id) (peer_numbers m id) (peer_numbered m id) (time_left m id)
