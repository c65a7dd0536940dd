-- The claims of specs/Claims.antt. Assumes nothing.
use mathlib.Core.Path.{◌≡◌, refl, sym, subst, ◌∙◌}
use Rattle.std.specs.Prelude.{◌↔◌, false}
use Prim.Native.Nat.{ℕ, ◌+◌, max}
use native.Mathlib.Omega.{arith}
use borrow.Author.Tests.{ltb-true, ltb-false, lt-ltb, le-ltb}
use Rattle.std.proofs.lemmas.Bool.Decides.{nat_tests}
use Rattle.drift.proofs.Claims.{clock-at-most, clock-above-zero}
use Rattle.timer.specs.declared.Reading.{Reading}
use Rattle.timer.specs.declared.Timer.{Timer}
use Rattle.timer.specs.declared.Timer.TheVariants.{Unarmed, Armed, Exploded}
use Rattle.timer.specs.Timers.{drifted, is_active, ns_left, ms_left}
use Rattle.timer.specs.Claims.{KickedOffActive, KickedOffNear, ExtendedActive, FiredInactive, ExpiredActive, FiredOnce, ExpiredAgain, ZeroWhenOver, RoundsUp, LeftRoundedUp, LeftExamples}

-- ---- arming
pub kicked-off-active : KickedOffActive
kicked-off-active clock now ns s l m = lt-ltb now.0 (now.0 + drifted clock ns) (omega (arith, clock-above-zero clock s ns l m))

pub kicked-off-near : KickedOffNear
kicked-off-near clock now ns s m = omega (arith, clock-at-most clock s ns m)

pub extended-active : ExtendedActive
extended-active now by Unarmed h = cc
extended-active now by (Armed deadline) h = lt-ltb now.0 (max deadline.0 now.0 + by) (omega (arith, ltb-true now.0 deadline.0 h))
extended-active now by Exploded h = cc

-- ---- expiry: a deadline is at or below the reading, or above it
pub fired-inactive : FiredInactive
fired-inactive now Unarmed h = cc
fired-inactive now (Armed deadline) h = grind (arith, nat_tests)
fired-inactive now Exploded h = cc

pub expired-active : ExpiredActive
expired-active now Unarmed = refl
expired-active now (Armed deadline) = grind (arith, nat_tests)
expired-active now Exploded = refl

pub fired-once : FiredOnce
fired-once now later Unarmed h = refl
fired-once now later (Armed deadline) h = grind (arith, nat_tests)
fired-once now later Exploded h = refl

pub expired-again : ExpiredAgain
expired-again now Unarmed = refl
expired-again now (Armed deadline) = grind (arith, nat_tests)
expired-again now Exploded = refl

-- ---- time left
pub zero-when-over : ZeroWhenOver
zero-when-over now Unarmed = (λ h. refl, λ h. refl)
zero-when-over now (Armed deadline) =
    (λ h. omega (arith, ltb-false now.0 deadline.0 h), λ h. le-ltb now.0 deadline.0 (omega (arith, h)))
zero-when-over now Exploded = (λ h. refl, λ h. refl)

pub left-rounded-up : LeftRoundedUp
left-rounded-up now Unarmed = record { enough = omega arith; least = λ ms h. omega arith }
left-rounded-up now (Armed deadline) = record { enough = omega arith; least = λ ms h. omega (arith, h) }
left-rounded-up now Exploded = record { enough = omega arith; least = λ ms h. omega arith }

-- the same two of an answer
pub left_is_over : (ms : ℕ) (now : Reading) (timer : Timer) → ms ≡ ms_left now timer → (ms ≡ 0) ↔ (is_active now timer ≡ false)
left_is_over ms now timer e = let z = zero-when-over now timer in (λ h. z.1 (sym e ∙ h), λ h. e ∙ z.0 h)

pub left_rounds_up : (ms : ℕ) (now : Reading) (timer : Timer) → ms ≡ ms_left now timer → RoundsUp (ns_left now timer) ms
left_rounds_up ms now timer e = subst (RoundsUp (ns_left now timer)) (sym e) (left-rounded-up now timer)

pub left-examples : LeftExamples
left-examples now = (omega arith, omega arith, omega arith)
