-- What the rules on a row and the pass ask of their callers. Definitions only.
use Rattle.std.specs.Prelude.{ℕ, ◌≤◌, Option, None, Some, Bool}
use Rattle.lease.specs.Drift.{longest}
use Rattle.lease.specs.Timers.{max_reading, Near}
use Rattle.lease.specs.declared.Term.{Term}
use Rattle.lease.specs.Types.{Timer, Reading}
use Rattle.lease.specs.declared.Peer.{Peer}

-- So that a deadline fits 64 bits: the reading is at most the largest, and T at most 10 s.
pub record TermFits (term : Term) : Type 0 where
  pub reading : term.now.0 ≤ max_reading
  pub timeout : term.expire_timeout ≤ 10000000000

-- A sent promise's deadline is not far past the reading, so that an extended one fits 64 bits.
abbrev pub NearGrant : Reading → Option (Timer × Bool) → Type 0
NearGrant now None = Unit
NearGrant now (Some (t, revoking)) = Near now t

-- A refresh extends the row's promise by `by` ns within 64 bits.
pub record Refreshable (now : Reading) (by : ℕ) (row : Peer) : Type 0 where
  pub reading : now.0 ≤ max_reading
  pub longest_by : by ≤ longest
  pub near_grant : NearGrant now row.promise_sent

-- The other rules take any row.
abbrev pub AnyRow : Peer → Type 0
AnyRow row = Unit
