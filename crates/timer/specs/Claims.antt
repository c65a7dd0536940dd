-- What is claimed of the timers' definitions, for callers. Each claim is proved in proofs/Claims.antt under the same name in small letters. Statements only.
use Rattle.std.specs.Prelude.{◌≡◌, true, false, ℕ, ◌+◌, ◌*◌, ◌≤◌, T}
use Rattle.drift.specs.declared.Clock.{Clock}
use Rattle.drift.specs.Clocks.{is_settable}
use Rattle.drift.specs.Claims.{longest_in_use}
use Rattle.timer.specs.declared.Reading.{Reading}
use Rattle.timer.specs.declared.Timer.{Timer}
use Rattle.timer.specs.declared.Timer.TheVariants.{Armed}
use Rattle.timer.specs.Timers.{Near, kicked_off, extended_by, is_active, is_exploded, ns_left, ms_left, expired_at}

-- ---- arming

-- Under a clock that a drift setting gives (rule 3.7), a timer kicked off for 3 ns to 20 s is active.
abbrev pub KickedOffActive : Type 0
KickedOffActive = (clock : Clock) (now : Reading) (ns : ℕ) → T (is_settable clock) → 3 ≤ ns → ns ≤ longest_in_use → is_active now (kicked_off clock now ns) ≡ true

-- Its deadline is near: at most 2,000 s past the reading.
abbrev pub KickedOffNear : Type 0
KickedOffNear = (clock : Clock) (now : Reading) (ns : ℕ) → T (is_settable clock) → ns ≤ longest_in_use → Near now (kicked_off clock now ns)

-- An active timer that is extended stays active.
abbrev pub ExtendedActive : Type 0
ExtendedActive = (now : Reading) (by : ℕ) (timer : Timer) → is_active now timer ≡ true → is_active now (extended_by now by timer) ≡ true

-- ---- expiry

-- A timer that fires at a reading was not active there, and is exploded.
abbrev pub FiredInactive : Type 0
FiredInactive = (now : Reading) (timer : Timer) → (expired_at now timer).fired ≡ true → (is_active now timer ≡ false) × (is_exploded (expired_at now timer).timer ≡ true)

-- Expiry at a reading does not change which timers are active there.
abbrev pub ExpiredActive : Type 0
ExpiredActive = (now : Reading) (timer : Timer) → is_active now (expired_at now timer).timer ≡ is_active now timer

-- A timer that has fired does not fire again, at no reading.
abbrev pub FiredOnce : Type 0
FiredOnce = (now later : Reading) (timer : Timer) → (expired_at now timer).fired ≡ true → (expired_at later (expired_at now timer).timer).fired ≡ false

-- Expired again at the same reading, a timer stays as it is and fires nothing.
abbrev pub ExpiredAgain : Type 0
ExpiredAgain = (now : Reading) (timer : Timer) → expired_at now (expired_at now timer).timer ≡ record { timer = (expired_at now timer).timer; fired = false }

-- ---- time left

-- Time left is 0 exactly when the timer is not active.
abbrev pub ZeroWhenOver : Type 0
ZeroWhenOver = (now : Reading) (timer : Timer) → (is_active now timer ≡ false → ms_left now timer ≡ 0) × (ms_left now timer ≡ 0 → is_active now timer ≡ false)

-- So many ms are the least that are not less than so many ns.
pub record RoundsUp (ns ms : ℕ) : Type 0 where
  pub enough : ns ≤ ms * 1_000_000
  pub least : (fewer : ℕ) → ns ≤ fewer * 1_000_000 → ms ≤ fewer

-- Time left is rounded up.
abbrev pub LeftRoundedUp : Type 0
LeftRoundedUp = (now : Reading) (timer : Timer) → RoundsUp (ns_left now timer) (ms_left now timer)

-- Time left of a timer that runs out so many ns from now.
abbrev pub left_with : Reading → ℕ → ℕ
left_with now ns = ms_left now (Armed (record { 0 = now.0 + ns }))

-- Examples, at every reading: 0.4 ms and 1 ms are 1 ms, and one ns more is 2 ms.
abbrev pub LeftExamples : Type 0
LeftExamples = (now : Reading) → (left_with now 400_000 ≡ 1) × (left_with now 1_000_000 ≡ 1) × (left_with now 1_000_001 ≡ 2)
