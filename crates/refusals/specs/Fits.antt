-- What the calls rely on once the record check passed a record. Definitions only.
use Rattle.std.specs.Prelude.{◌≡◌, ◌≤◌, ◌<◌}
use Rattle.lease.specs.Bitmaps.{capacity}
use Rattle.lease.specs.Timers.{max_reading}
use Rattle.lease.specs.declared.Manager.{Manager}
use Rattle.lease.specs.Rows.{row_at, empty_row}

-- The part of the record check that sums and indices rest on: numbers within set-up's limits.
pub record LimitsFit (m : Manager) : Type 0 where
  pub reading : m.now.0 ≤ max_reading
  pub timeout : m.expire_timeout ≤ 10000000000
  pub few : m.population ≤ capacity
  pub own : m.me < m.population

-- The part that clearing rests on too: the same numbers, and an empty row of the own id.
pub record ManagerFits (m : Manager) : Type 0 where
  pub reading : m.now.0 ≤ max_reading
  pub timeout : m.expire_timeout ≤ 10000000000
  pub few : m.population ≤ capacity
  pub own : m.me < m.population
  pub own_row : row_at m.peers m.me ≡ empty_row
