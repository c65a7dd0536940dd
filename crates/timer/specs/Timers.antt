-- Timers (section 4), as in the Rust's src/utils/timer.rs: unarmed, armed with a deadline, or exploded. A reading and a deadline are in ns. Definitions only.
use Rattle.std.specs.Prelude.{ℕ, ◌+◌, ◌-◌, ◌/◌, ◌≤◌, max, Bool, true, false, cond, leb, ltb}
use Rattle.drift.specs.declared.Clock.{Clock}
use Rattle.drift.specs.Clocks.{drifted_on}
use Rattle.timer.specs.declared.Reading.{Reading}
use Rattle.timer.specs.declared.Expired.{Expired}
use Rattle.timer.specs.declared.Timer.{Timer}
use Rattle.timer.specs.declared.Timer.TheVariants.{Unarmed, Armed, Exploded}

-- ---- limits

-- The largest clock reading (rule 3.1).
abbrev pub max_reading : ℕ
max_reading = 9_223_372_036_854_775_807

-- How far past the reading a deadline may be: 3,000 s (rule 5.3).
abbrev pub farthest : ℕ
farthest = 3_000_000_000_000

-- An armed timer's deadline is at most that far past the reading.
abbrev pub Near : Reading → Timer → Type 0
Near now Unarmed = Unit
Near now (Armed deadline) = deadline.0 ≤ now.0 + farthest
Near now Exploded = Unit

-- ---- arming

-- The drifted duration: a duration in ns as the clock has it.
abbrev pub drifted : Clock → ℕ → ℕ
drifted clock ns = (drifted_on clock ns).ns

-- `kickoff` (rule 4.2) sets now + drifted duration, earlier or later than before, and clears the explosion: so what the timer is before does not matter.
abbrev pub kicked_off : Clock → Reading → ℕ → Timer
kicked_off clock now ns = Armed (record { 0 = now.0 + drifted clock ns })

-- `extend` (rule 4.3) does nothing when exploded; otherwise it adds the drifted duration, here `by`, to the larger of deadline and now, or to now if unarmed.
abbrev pub extended_by : Reading → ℕ → Timer → Timer
extended_by now by Unarmed = Armed (record { 0 = now.0 + by })
extended_by now by (Armed deadline) = Armed (record { 0 = max deadline.0 now.0 + by })
extended_by now by Exploded = Exploded

-- ---- asking

-- `active` (rule 4.4) means not exploded and deadline above now: so an unarmed timer is not active.
abbrev pub is_active : Reading → Timer → Bool
is_active now Unarmed = false
is_active now (Armed deadline) = ltb now.0 deadline.0
is_active now Exploded = false

-- Whether the timer has exploded since it was last kicked off (rule 4.1).
abbrev pub is_exploded : Timer → Bool
is_exploded Unarmed = false
is_exploded (Armed deadline) = false
is_exploded Exploded = true

-- Deadline minus now in ns.
abbrev pub ns_left : Reading → Timer → ℕ
ns_left now Unarmed = 0
ns_left now (Armed deadline) = deadline.0 - now.0
ns_left now Exploded = 0

-- Time left: the same in whole milliseconds, rounded up, so that it is 0 exactly if run out (rule 4.6).
abbrev pub ms_left : Reading → Timer → ℕ
ms_left now Unarmed = 0
ms_left now (Armed deadline) = (deadline.0 - now.0 + 999_999) / 1_000_000
ms_left now Exploded = 0

-- ---- expiry

-- At a reading (rule 4.5), an armed timer with deadline at or below it explodes: it fires, once, since an exploded timer does not fire. Any other timer stays as it is.
abbrev pub expired_at : Reading → Timer → Expired
expired_at now Unarmed = record { timer = Unarmed; fired = false }
expired_at now (Armed deadline) = cond (leb deadline.0 now.0) (record { timer = Exploded; fired = true }) (record { timer = Armed deadline; fired = false })
expired_at now Exploded = record { timer = Exploded; fired = false }
