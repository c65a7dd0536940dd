-- Rule 5.2: one id's row, and what is asked of its entries.
use Rattle.std.specs.Prelude.{ℕ, Bool, true, false, not, List, get_or, Option, None, Some}
use Rattle.timer.specs.declared.Timer.{Timer}
use Rattle.timer.specs.declared.Reading.{Reading}
use Rattle.timer.specs.Timers.{is_exploded, is_active}
use Rattle.lease.specs.declared.Peer.{Peer}

-- the row with other entries on the held side, or on the sent side
abbrev pub with_held : Peer → Option Timer → Option Timer → Peer
with_held row guard promise =
    record {
      guard_sent = row.guard_sent;
      promise_sent = row.promise_sent;
      guard_held = guard;
      promise_held = promise;
      refresh_mark = row.refresh_mark;
    }

abbrev pub with_sent : Peer → Option Timer → Option (Timer × Bool) → Bool → Peer
with_sent row guard promise mark =
    record {
      guard_sent = guard;
      promise_sent = promise;
      guard_held = row.guard_held;
      promise_held = row.promise_held;
      refresh_mark = mark;
    }

abbrev pub empty_row : Peer
empty_row = record { guard_sent = None; promise_sent = None; guard_held = None; promise_held = None; refresh_mark = false }

-- the row of an id (rule 5.1)
abbrev pub row_at : List Peer → ℕ → Peer
row_at rows i = get_or rows i empty_row

-- whether there is an entry
abbrev pub present : Option Timer → Bool
present None = false
present (Some t) = true

abbrev pub granted : Option (Timer × Bool) → Bool
granted None = false
granted (Some (t, revoking)) = true

-- the timer of a sent promise
abbrev pub promise_timer : Option (Timer × Bool) → Option Timer
promise_timer None = None
promise_timer (Some (t, revoking)) = Some t

-- rule 7.13: whether there is a timer that is not exploded; an unarmed one is not
abbrev pub unexploded : Option Timer → Bool
unexploded None = false
unexploded (Some t) = not (is_exploded t)

abbrev pub unexploded_grant : Option (Timer × Bool) → Bool
unexploded_grant None = false
unexploded_grant (Some (t, revoking)) = not (is_exploded t)

-- rule 4.4: whether there is an active timer
abbrev pub active_entry : Reading → Option Timer → Bool
active_entry now None = false
active_entry now (Some t) = is_active now t
