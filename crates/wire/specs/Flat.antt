-- A manager's record as plain numbers (rule 13.1). Definitions only.
use Rattle.std.specs.Prelude.{ℕ, Bool, true, false, map, Float, Option, None, Some}
use Rattle.lease.specs.Types.{Reading, Clock, True, Drifting, Timer, Unarmed, Armed, Exploded}
use Rattle.lease.specs.Drift.{quotient_at}
use Rattle.lease.specs.declared.Peer.{Peer}
use Rattle.lease.specs.declared.Manager.{Manager}
use Rattle.wire.specs.declared.flat.PeerC.{PeerC}
use Rattle.wire.specs.declared.flat.ManagerC.{ManagerC}

-- A bool as a number.
abbrev pub flag : Bool → ℕ
flag true = 1
flag false = 0

-- ---- timers and entries: a tag, and the deadline of an armed timer, else 0

abbrev pub timer_tag : Timer → ℕ
timer_tag Unarmed = 1
timer_tag (Armed deadline) = 2
timer_tag Exploded = 3

abbrev pub timer_at : Timer → ℕ
timer_at Unarmed = 0
timer_at (Armed deadline) = deadline.0
timer_at Exploded = 0

abbrev pub entry_tag : Option Timer → ℕ
entry_tag None = 0
entry_tag (Some t) = timer_tag t

abbrev pub entry_at : Option Timer → ℕ
entry_at None = 0
entry_at (Some t) = timer_at t

abbrev pub grant_tag : Option (Timer × Bool) → ℕ
grant_tag None = 0
grant_tag (Some (t, revoking)) = timer_tag t

abbrev pub grant_at : Option (Timer × Bool) → ℕ
grant_at None = 0
grant_at (Some (t, revoking)) = timer_at t

abbrev pub grant_revoking : Option (Timer × Bool) → ℕ
grant_revoking None = 0
grant_revoking (Some (t, revoking)) = flag revoking

unfoldable pub flat_row : Peer → PeerC
flat_row row =
    record {
      guard_sent = entry_tag row.guard_sent;
      promise_sent = grant_tag row.promise_sent;
      guard_held = entry_tag row.guard_held;
      promise_held = entry_tag row.promise_held;
      revoking = grant_revoking row.promise_sent;
      refresh_mark = flag row.refresh_mark;
      guard_sent_at = entry_at row.guard_sent;
      promise_sent_at = grant_at row.promise_sent;
      guard_held_at = entry_at row.guard_held;
      promise_held_at = entry_at row.promise_held;
    }

-- ---- the clock and quiet time

-- The quotient that stands beside a true clock: 1.0, the quotient of the rate 100.
abbrev pub true_quotient : Float
true_quotient = quotient_at 100

abbrev pub clock_drifting : Clock → ℕ
clock_drifting True = 0
clock_drifting (Drifting q) = 1

abbrev pub clock_quotient : Clock → Float
clock_quotient True = true_quotient
clock_quotient (Drifting q) = q

abbrev pub quiet_flag : Option Reading → ℕ
quiet_flag None = 0
quiet_flag (Some deadline) = 1

abbrev pub quiet_until_of : Option Reading → ℕ
quiet_until_of None = 0
quiet_until_of (Some deadline) = deadline.0

-- ---- the record

unfoldable pub flat_of : Manager → ManagerC
flat_of m =
    record {
      me = m.me;
      population = m.population;
      expire_timeout = m.expire_timeout;
      now = m.now.0;
      active_num = m.active_num.0;
      quotient = clock_quotient m.clock;
      quiet_until = quiet_until_of m.quiet_timer;
      drifting = clock_drifting m.clock;
      quiet = quiet_flag m.quiet_timer;
      peers = map flat_row m.peers;
    }
