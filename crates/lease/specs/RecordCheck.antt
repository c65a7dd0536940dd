-- Rule 5.3: which records are a manager's. A call looks at this before all else, and refuses any other record with 15 (rule 10.15).
use Rattle.std.specs.Prelude.{ℕ, zero, suc, ◌+◌, Bool, true, false, cond, not, ◌&&◌, ◌||◌, List, eqb, leb, ltb, Option, None, Some}
use Rattle.bitmap.specs.Bitmaps.{capacity}
use Rattle.drift.specs.Clocks.{is_settable}
use Rattle.timer.specs.declared.Reading.{Reading}
use Rattle.timer.specs.declared.Timer.{Timer}
use Rattle.timer.specs.declared.Timer.TheVariants.{Unarmed, Armed, Exploded}
use Rattle.timer.specs.Timers.{farthest}
use Rattle.lease.specs.declared.Peer.{Peer}
use Rattle.lease.specs.declared.Manager.{Manager}
use Rattle.lease.specs.Rows.{row_at, present, granted}
use Rattle.lease.specs.Limits.{timeout_valid, population_valid, own_valid, reading_valid}

-- ---- timers

-- a deadline is above the reading, and not over 3,000 s past it
abbrev pub deadline_valid : Reading → Reading → Bool
deadline_valid now d = cond (ltb now.0 d.0) (leb d.0 (now.0 + farthest)) false

-- a sent guard is unarmed
abbrev pub unarmed : Timer → Bool
unarmed Unarmed = true
unarmed (Armed d) = false
unarmed Exploded = false

abbrev pub sent_guard_valid : Option Timer → Bool
sent_guard_valid None = true
sent_guard_valid (Some t) = unarmed t

-- no other timer is
abbrev pub timer_valid : Reading → Timer → Bool
timer_valid now Unarmed = false
timer_valid now (Armed d) = deadline_valid now d
timer_valid now Exploded = true

abbrev pub entry_valid : Reading → Option Timer → Bool
entry_valid now None = true
entry_valid now (Some t) = timer_valid now t

abbrev pub grant_valid : Reading → Option (Timer × Bool) → Bool
grant_valid now None = true
grant_valid now (Some (t, revoking)) = timer_valid now t

abbrev pub quiet_valid : Reading → Option Reading → Bool
quiet_valid now None = true
quiet_valid now (Some d) = deadline_valid now d

-- ---- rows

abbrev pub timers_valid : Reading → Peer → Bool
timers_valid now row =
    (sent_guard_valid row.guard_sent && grant_valid now row.promise_sent) && (entry_valid now row.guard_held && entry_valid now row.promise_held)

-- no peer has a guard and a promise on one side
abbrev pub sides_valid : Peer → Bool
sides_valid row =
    (not (present row.guard_sent) || not (granted row.promise_sent)) && (not (present row.guard_held) || not (present row.promise_held))

unfoldable pub row_valid : Reading → Peer → Bool
row_valid now row = timers_valid now row && sides_valid row

-- no entry and no mark
abbrev pub entries_empty : Peer → Bool
entries_empty row =
    (not (present row.guard_sent) && not (granted row.promise_sent)) && (not (present row.guard_held) && not (present row.promise_held))

unfoldable pub row_empty : Peer → Bool
row_empty row = cond row.refresh_mark false (entries_empty row)

-- the rows of the own id and of ids from the population on are empty
unfoldable pub row_valid_at : ℕ → ℕ → Reading → ℕ → Peer → Bool
row_valid_at own n now i row = cond (ltb i n) (cond (eqb i own) (row_empty row) (row_valid now row)) (row_empty row)

-- the rows of the ids below k
unfoldable pub rows_valid : ℕ → ℕ → Reading → List Peer → ℕ → Bool
rows_valid own n now rows zero = true
rows_valid own n now rows (suc k) = rows_valid own n now rows k && row_valid_at own n now k (row_at rows k)

-- ---- the record

-- T, population, own id and reading are within set-up's limits
unfoldable pub limits_valid : Manager → Bool
limits_valid m = (timeout_valid m.expire_timeout && population_valid m.population) && (own_valid m.me m.population && reading_valid m.now)

-- and some drift setting gives the clock (rule 3.7)
unfoldable pub record_valid : Manager → Bool
record_valid m =
    (limits_valid m && rows_valid m.me m.population m.now m.peers capacity) && (is_settable m.clock && quiet_valid m.now m.quiet_timer)
