-- The claims of specs/Claims.antt, for callers. Each bound is shown once, of any float that has the value of a rate's quotient, and then read for a setting and for a quotient that is found.
-- Assumes nothing.
use mathlib.Core.Path.{◌≡◌, sym, ap, subst, ◌∙◌}
use Prim.Native.Nat.{ℕ, zero, suc, ◌+◌, ◌*◌, ◌^◌, ◌≤◌, ◌<◌, max, zero-le}
use native.Mathlib.Nat.{le_trans, le_refl, mul_right_comm, le_of_eq, le_of_lt, lt_of_lt_of_le, mul-one, add-mul, mul-le-mul_left, mul-le-mul_right, lt_of_mul-lt-mul_right}
use native.Mathlib.Omega.{arith}
use mathlib.Core.Bool.{Bool, true, false, not, cond}
use lib.IntN.{sub_ℕ}
use lib.Dec.{T, leb, nleb→lt, lit≤, lit<}
use lib.Pow.{pow_pos}
use lib.Ieee.{Float, nan, inf, fin, binary64, up, down}
use lib.Ieee.Fits.{down_pos}
use lib.Ieee.Exact.{HasValue}
use lib.Ieee.Nearest.{closest, closest_mono}
use Rattle.drift.specs.declared.Clock.{Clock}
use Rattle.drift.specs.declared.Clock.TheVariants.{True, Drifting}
use Rattle.drift.specs.Clocks.{drifted_on}
use Rattle.drift.specs.Drift.{StrictlyWithin, nanos_per_sec, rate_of, quotient_at, quotient_of, longest, ns_of, product_of, drifted_by, drifted_at}
use Rattle.drift.specs.Claims.{longest_in_use, StrictBound, MeetsBound, AtMost, AboveZero, ExactAtOne, FoundSetting, SettingFound, FoundAtMost, FoundAboveZero, ClockAtMost, ClockAboveZero, DriftedLe, ClockLe}
use Rattle.drift.proofs.Rates.{rate-pos, rate-le, setting-fits, setting-rate}
use Rattle.drift.proofs.Rounded.{L}
use Rattle.drift.proofs.Bound.{above, below}
use Rattle.drift.proofs.Same.{eq_refl, value-unique}
use Rattle.drift.proofs.Quotients.{hundred, wide, value, has_value, quotient_fits, rate-found, the_rate, the_rate-pos, the_rate-le, found-value}

-- ---- the laws of a float x that has the value of the quotient of the rate R
module _ (x : Float) (R : ℕ) (P : 0 < R) (few : R ≤ 227) (has : HasValue x false (value R) L) (ns : ℕ) (most : ns ≤ longest_in_use) where
  strictly-of : StrictlyWithin (drifted_by x ns * R) (100 * ns) R
  strictly-of = record {
    over = above 100 R ns P (lit≤ tt) (wide R few) (hundred R P) most x has;
    under = below 100 R ns P (lit≤ tt) (wide R few) (hundred R P) most x has;
  }

  most-of : drifted_by x ns ≤ 100 * ns
  most-of = last (drifted_by x ns) (100 * ns) (lt_of_mul-lt-mul_right R (lt_of_lt_of_le strictly-of.over (le_trans (grows (100 * ns)) (le_of_eq (sym (one_more (100 * ns)))))))
    where
      last : (a b : ℕ) → a < b + 1 → a ≤ b
      last a b h = omega arith

      grows : (b : ℕ) → b + R ≤ b * R + R
      grows b = let g : b ≤ b * R = le_trans (le_of_eq (sym (mul-one b))) (mul-le-mul_left b P) in omega arith

      one_more : (b : ℕ) → (b + 1) * R ≡ b * R + R
      one_more b = omega (arith, add-mul b 1 R)

  -- 3 ns are more than 227 / 100
  some_of : 3 ≤ ns → 0 < drifted_by x ns
  some_of h = go (drifted_by x ns) strictly-of.under
    where
      go : (a : ℕ) → 100 * ns < a * R + R → 0 < a
      go zero k = absurd (no k)
        where
          no : 100 * ns < 0 * R + R → ⊥
          no g = omega arith
      go (suc a) k = omega arith

-- ---- of a setting
pub strict-bound : StrictBound
unfolding drifted_at
strict-bound d ns f m = strictly-of (quotient_of d) (rate_of d) (rate-pos d) (rate-le d f) (has_value (rate_of d) (rate-pos d) (rate-le d f)) ns m

-- the same of what a clock answers
pub meets_bound : (clock : Clock) (ns answer : ℕ) → answer ≡ (drifted_on clock ns).ns → MeetsBound clock ns answer
unfolding drifted_on drifted_at
meets_bound clock ns answer e d f c m =
    subst (λ (x : ℕ). StrictlyWithin (x * rate_of d) (100 * ns) (rate_of d)) (sym (e ∙ ap (λ (k : Clock). (drifted_on k ns).ns) c)) (strict-bound d ns f m)

pub at_most : AtMost
unfolding drifted_at
at_most d ns f m = most-of (quotient_of d) (rate_of d) (rate-pos d) (rate-le d f) (has_value (rate_of d) (rate-pos d) (rate-le d f)) ns m

pub above_zero : AboveZero
unfolding drifted_at
above_zero d ns f l m = some_of (quotient_of d) (rate_of d) (rate-pos d) (rate-le d f) (has_value (rate_of d) (rate-pos d) (rate-le d f)) ns m l

-- less than 1 off is not off
pub exact-at-one : ExactAtOne
exact-at-one ns m = squeeze (drifted_by (quotient_at 1) ns) (100 * ns) (strictly-of (quotient_at 1) 1 (lit< tt) (lit≤ tt) (has_value 1 (lit< tt) (lit≤ tt)) ns m)
  where
    squeeze : (a b : ℕ) → StrictlyWithin (a * 1) b 1 → a ≡ b
    squeeze a b h = omega (arith, h.over, h.under)

-- ---- of a quotient that is found
pub found-at-most : FoundAtMost
found-at-most q found ns m = most-of q (the_rate q found) (the_rate-pos q found) (the_rate-le q found) (found-value q found) ns m

pub found-above-zero : FoundAboveZero
found-above-zero q found ns l m = some_of q (the_rate q found) (the_rate-pos q found) (the_rate-le q found) (found-value q found) ns m l

-- the setting is the rate less 100
pub found-setting : FoundSetting
found-setting q found f =
    let r = the_rate q found in
    let P = the_rate-pos q found in
    let h = the_rate-le q found in
    (sub_ℕ r 100, setting-fits r h, value-unique binary64 q (quotient_at r) false (value r) L f (quotient_fits r P h) (pow_pos 1074) (found-value q found) (has_value r P h) ∙ ap quotient_at (sym (setting-rate r P)))

pub setting-found : SettingFound
setting-found d f = rate-found 227 (rate_of d) (quotient_of d) (rate-pos d) (rate-le d f) (eq_refl (quotient_of d) false (value (rate_of d)) L (has_value (rate_of d) (rate-pos d) (rate-le d f)))

-- ---- of a clock that a setting gives
pub clock-at-most : ClockAtMost
unfolding drifted_on
clock-at-most True s ns m = omega arith
clock-at-most (Drifting q) s ns m = found-at-most q s ns m

pub clock-above-zero : ClockAboveZero
unfolding drifted_on
clock-above-zero True s ns l m = omega arith
clock-above-zero (Drifting q) s ns l m = found-above-zero q s ns l m

-- ---- of every float, a NaN and the infinities too
pub ns-le : (p : Float) → ns_of p ≤ longest
unfolding ns_of
ns-le nan = zero-le
ns-le (inf true) = zero-le
ns-le (inf false) = le_refl longest
ns-le (fin true m e) = zero-le
ns-le (fin false m e) = go (leb (2 ^ 20 * down e) (m * up e)) (nleb→lt (2 ^ 20 * down e) (m * up e))
  where
    go : (b : Bool) → (T (not b) → m * up e < 2 ^ 20 * down e) → cond b longest (closest (m * up e * nanos_per_sec) (down e)) ≤ longest
    go true h = le_refl longest
    go false h =
        closest_mono (m * up e * nanos_per_sec) (down e) longest 1 (down_pos e) (lit< tt)
        (le_trans (le_of_eq (mul-one (m * up e * nanos_per_sec))) (le_trans (mul-le-mul_right nanos_per_sec (le_of_lt (h tt))) (le_of_eq (mul_right_comm (2 ^ 20) (down e) nanos_per_sec))))

pub drifted-le : DriftedLe
unfolding drifted_by
drifted-le q ns = ns-le (product_of q ns)

pub clock_le : ClockLe
unfolding drifted_on
clock_le True ns = omega arith
clock_le (Drifting q) ns = larger (drifted_by q ns) (drifted-le q ns)
  where
    larger : (a : ℕ) → a ≤ longest → a ≤ max ns longest
    larger a h = omega arith
