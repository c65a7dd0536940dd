-- What is claimed of the rules for every record: at most three lines come of a notice, in order (rule 7.14), a refused call changes nothing
-- (rule 10.31), and what a refused set-up answers (rule 6.3). Proved in proofs/RuleClaims.
use Rattle.std.specs.Prelude.{◌≡◌, ℕ, ◌≤◌, length, Option, ℤ, Err, false}
use Rattle.bitmap.specs.declared.Bitmap.{Bitmap}
use Rattle.timer.specs.declared.Reading.{Reading}
use Rattle.lease.specs.declared.LeaseNum.{LeaseNum}
use Rattle.lease.specs.declared.LeaseNotice.{LeaseNotice}
use Rattle.lease.specs.declared.Manager.{Manager}
use Rattle.lease.specs.declared.Refusal.{Refusal}
use Rattle.lease.specs.Notices.{accepted_of}
use Rattle.lease.specs.RecordCheck.{record_valid}
use Rattle.lease.specs.SetUp.{setup_of}
use Rattle.lease.specs.Rules.{notice_of, advance_of, quiet_of, refresh_of, drift_of}
use Rattle.lease.specs.Verdicts.{lines_of}

-- rule 7.14
abbrev pub AtMostThree : Type 0
AtMostThree = (m : Manager) (num : LeaseNum) (x : LeaseNotice) → length (lines_of (accepted_of m num x).lines) ≤ 3

-- rule 10.31 on a record: the one that a refused call answers is the one that went in
pub record RefusalsKeep (m : Manager) : Type 0 where
  pub notices : (num : LeaseNum) (x : LeaseNotice) (k : Refusal) → (notice_of m num x).outcome ≡ Err k → (notice_of m num x).manager ≡ m
  pub advances : (to : Reading) (k : Refusal) → (advance_of m to).outcome ≡ Err k → (advance_of m to).manager ≡ m
  pub quiet-starts : (k : Refusal) → (quiet_of m).outcome ≡ Err k → (quiet_of m).manager ≡ m
  pub refreshes : (to : Option Bitmap) (k : Refusal) → (refresh_of m to).outcome ≡ Err k → (refresh_of m to).manager ≡ m
  pub drifts : (x : Option ℤ) (k : Refusal) → (drift_of m x).outcome ≡ Err k → (drift_of m x).manager ≡ m

-- on every record
abbrev pub RefusedCallsKeep : Type 0
RefusedCallsKeep = (m : Manager) → RefusalsKeep m

-- rule 6.3: no call takes what a refused set-up answers
abbrev pub RefusedSetUp : Type 0
RefusedSetUp = (me n t heartbeat : ℕ) (now : Reading) (k : Refusal) → (setup_of me n t heartbeat now).outcome ≡ Err k → record_valid (setup_of me n t heartbeat now).manager ≡ false
