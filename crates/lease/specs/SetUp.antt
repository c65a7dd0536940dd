-- Rule 6: set-up, the Rust's `new_and_setup`.
use Rattle.std.specs.Prelude.{ℕ, ◌*◌, cond, not, leb, replicate, None, Result, Ok, Err}
use Rattle.bitmap.specs.Bitmaps.{capacity}
use Rattle.lease.specs.declared.Answered.{Answered}
use Rattle.drift.specs.declared.Clock.TheVariants.{True}
use Rattle.timer.specs.declared.Reading.{Reading}
use Rattle.lease.specs.declared.Manager.{Manager}
use Rattle.lease.specs.declared.Refusal.{Refusal}
use Rattle.lease.specs.declared.Refusal.TheVariants as R
use Rattle.lease.specs.Rows.{empty_row}
use Rattle.lease.specs.Refusals.{unless}
use Rattle.lease.specs.Limits.{timeout_valid, population_valid, own_valid, reading_valid}

-- rules 10.1 to 10.5, in this order
abbrev pub setup_refusal : ℕ → ℕ → ℕ → ℕ → Reading → Result (Unit {0}) Refusal
setup_refusal me n t heartbeat now =
    cond (not (timeout_valid t)) (Err R.TimeoutOutOfRange)
    (cond (leb t (2 * heartbeat)) (Err R.HeartbeatTooSlow)
    (cond (not (population_valid n)) (Err R.PopulationOutOfRange)
    (cond (not (own_valid me n)) (Err R.OwnNotBelowPopulation) (cond (not (reading_valid now)) (Err R.ReadingTooHigh) (Ok tt)))))

-- rule 6.2: number 0, a true clock, no quiet time, and every row empty
unfoldable pub fresh : ℕ → ℕ → ℕ → Reading → Manager
fresh me n t now =
    record {
      me = me;
      population = n;
      expire_timeout = t;
      now = now;
      active_num = record { 0 = 0 };
      clock = True;
      quiet_timer = None;
      peers = replicate capacity empty_row;
    }

-- rule 6.3: a refused set-up answers its number, and a record of population 0, which every call refuses with 15
unfoldable pub setup_of : ℕ → ℕ → ℕ → ℕ → Reading → Answered (Unit {0})
setup_of me n t heartbeat now =
    unless (setup_refusal me n t heartbeat now) (λ k. record { outcome = Err k; manager = fresh 0 0 0 (record { 0 = 0 }) })
    (record { outcome = Ok tt; manager = fresh me n t now })
