-- The claims of specs/RuleClaims.
use Rattle.std.specs.Prelude.{Option, Result, Ok, Err}
use mathlib.Core.Path.{◌≡◌, refl}
use mathlib.Core.Bool.{false}
use Prim.Native.Nat.{ℕ, ◌≤◌}
use native.Mathlib.Omega.{arith}
use lib.ListN.{length}
use Rattle.bitmap.specs.declared.Bitmap.{Bitmap}
use Rattle.timer.specs.declared.Reading.{Reading}
use Rattle.lease.specs.declared.Answered.{Answered}
use Rattle.lease.specs.declared.LeaseNum.{LeaseNum}
use Rattle.lease.specs.declared.LeaseNotice.{LeaseNotice}
use Rattle.lease.specs.declared.Manager.{Manager}
use Rattle.lease.specs.declared.Advanced.{Advanced}
use Rattle.lease.specs.declared.Lines.{Lines}
use Rattle.lease.specs.declared.Lines.TheVariants as L
use Rattle.lease.specs.declared.Refusal.{Refusal}
use Rattle.lease.specs.Notices.{accepted_of}
use Rattle.lease.specs.Calls.{advance_to, assume_unknown_grants, attempt_refresh, set_drift}
use Rattle.lease.specs.RecordCheck.{limits_valid, record_valid}
use Rattle.lease.specs.Refusals.{unless, notice_refusal, advance_refusal, refresh_refusal}
use Rattle.lease.specs.SetUp.{setup_refusal, fresh, setup_of}
use Rattle.lease.specs.Rules.{notice_given, notice_of, advance_of, quiet_of, refresh_of, drift_of}
use Rattle.lease.specs.Verdicts.{lines_of}
use Rattle.lease.specs.RuleClaims.{AtMostThree, RefusalsKeep, RefusedCallsKeep, RefusedSetUp}
use Rattle.lease.proofs.Judged.{judged-by, plain_of}

three : (l : Lines) → length (lines_of l) ≤ 3
three L.None = omega arith
three (L.One a) = omega arith
three (L.Two a b) = omega arith
three (L.Three a b c) = omega arith

pub at-most-three : AtMostThree
at-most-three m num x = three (accepted_of m num x).lines

-- ---- a refusal changes nothing

module _ (m : Manager) where
  notices-keep : (num : LeaseNum) (x : LeaseNotice) (k : Refusal) → (notice_of m num x).outcome ≡ Err k → (notice_of m num x).manager ≡ m
  unfolding notice_of
  notices-keep num x k =
      judged-by (λ (r : Answered Lines). r.outcome ≡ Err k → r.manager ≡ m) (record_valid m) (notice_refusal m.population m.me x)
      (λ j. record { outcome = Err j; manager = m }) (notice_given (accepted_of m num x)) (λ j e. refl)
      (λ z e. absurd (let w : ◌≡◌ {A = ℕ} 0 1 = cc in omega arith))

  advances-keep : (to : Reading) (k : Refusal) → (advance_of m to).outcome ≡ Err k → (advance_of m to).manager ≡ m
  unfolding advance_of advance_to
  advances-keep to k =
      judged-by (λ (r : Answered Advanced). r.outcome ≡ Err k → r.manager ≡ m) (record_valid m) (advance_refusal m.now to)
      (λ j. record { outcome = Err j; manager = m }) (advance_to m to) (λ j e. refl) (λ z e. absurd (let w : ◌≡◌ {A = ℕ} 0 1 = cc in omega arith))

  refreshes-keep : (to : Option Bitmap) (k : Refusal) → (refresh_of m to).outcome ≡ Err k → (refresh_of m to).manager ≡ m
  unfolding refresh_of attempt_refresh
  refreshes-keep to k =
      judged-by (λ (r : Answered Bitmap). r.outcome ≡ Err k → r.manager ≡ m) (record_valid m) (refresh_refusal to)
      (λ j. record { outcome = Err j; manager = m }) (attempt_refresh m to) (λ j e. refl) (λ z e. absurd (let w : ◌≡◌ {A = ℕ} 0 1 = cc in omega arith))

  -- of a quiet start and a drift setting, which 15 alone refuses
  plain-keeps : (next : Manager) (k : Refusal) → (plain_of m next).outcome ≡ Err k → (plain_of m next).manager ≡ m
  plain-keeps next k =
      judged-by (λ (r : Answered (Unit {0})). r.outcome ≡ Err k → r.manager ≡ m) (record_valid m) (Ok tt)
      (λ j. record { outcome = Err j; manager = m }) (record { outcome = Ok tt; manager = next }) (λ j e. refl)
      (λ z e. absurd (let w : ◌≡◌ {A = ℕ} 0 1 = cc in omega arith))

  pub refusals-keep : RefusalsKeep m
  unfolding quiet_of drift_of
  refusals-keep =
      record {
        notices = notices-keep;
        advances = advances-keep;
        quiet-starts = plain-keeps (assume_unknown_grants m);
        refreshes = refreshes-keep;
        drifts = λ x. plain-keeps (set_drift m x);
      }

pub refused-calls-keep : RefusedCallsKeep
refused-calls-keep m = refusals-keep m

pub refused-set-up : RefusedSetUp
unfolding setup_of fresh limits_valid record_valid
refused-set-up me n t heartbeat now k e = go (setup_refusal me n t heartbeat now) e
  where
    by : Result (Unit {0}) Refusal → Answered (Unit {0})
    by z = unless z (λ j. record { outcome = Err j; manager = fresh 0 0 0 (record { 0 = 0 }) }) (record { outcome = Ok tt; manager = fresh me n t now })

    go : (z : Result (Unit {0}) Refusal) → (by z).outcome ≡ Err k → record_valid (by z).manager ≡ false
    go (Ok x) e = absurd (let w : ◌≡◌ {A = ℕ} 0 1 = cc in omega arith)
    go (Err j) e = refl
