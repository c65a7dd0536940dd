-- `nearest_ns`'s arithmetic: the whole number nearest to a / b, ties to even, by how twice the remainder compares with b; the same as the code has it, where b is 2 ^ p, half of it is
-- added before the remainder is cut off, and of the low 32 bits it counts only whether there are any; and the same by a mask for the remainder. Assumes nothing.
use mathlib.Core.Path.{◌≡◌, refl, sym, ap, subst, ◌∙◌}
use Prim.Native.Nat.{ℕ, zero, suc, ◌+◌, ◌-◌, ◌*◌, ◌/◌, ◌%◌, ◌^◌, ◌≤◌, ◌<◌, compare}
use Prim.Native.Nat as nat
use mathlib.Core.Bool.{Bool, true, false, cond}
use native.Mathlib.Nat.{mod-lt, mul_comm, div-div-eq-div-mul, div-eq_of_lt, div-add-mod', add-mul-div_right, add_comm, zero-add, two-pow-succ, le_trans, lt_of_lt_of_le, lt_of_le_of_lt, div-lt_iff_lt-mul, mul-lt-mul_of_pos_right, mul-le-mul_left}
use native.Mathlib.Numerals.{add-one}
use native.Mathlib.Omega.{arith}
use Rattle.std.proofs.lemmas.Nat.{and_mask, one_shl}
use lib.Bits.{bit_and}
use lib.Dec.{lit<, lit≤, eqb}
use lib.Arith.{mod-mul}
use borrow.Author.Tests.{eqb-true, eqb-false}
use lib.Pow.{pow_pos, pow_mono, pow-add}
use lib.Ieee.{nearest}
use lib.Ieee.Nearest.{closest}
use Rattle.std.specs.Ordering.{nat_cmp}
use Rattle.std.specs.Cmp.{ranked}
use Rattle.std.specs.declared.cmp.Ordering.{Ordering}
use Rattle.std.specs.declared.cmp.Ordering.TheVariants.{Less, Equal, Greater}
use Rattle.drift.specs.Drift.{nanos_per_sec}
use Rattle.drift.proofs.Rounded.{Cmp, cmp}

-- ---- of any fraction
same-order : (a b : ℕ) (o o' : nat.Ordering) → Cmp o a b → Cmp o' a b → o ≡ o'
same-order a b nat.Ordering.lt nat.Ordering.lt h k = refl
same-order a b nat.Ordering.lt nat.Ordering.eq h k = absurd (omega (arith, h, k))
same-order a b nat.Ordering.lt nat.Ordering.gt h k = absurd (omega (arith, h, k))
same-order a b nat.Ordering.eq nat.Ordering.lt h k = absurd (omega (arith, h, k))
same-order a b nat.Ordering.eq nat.Ordering.eq h k = refl
same-order a b nat.Ordering.eq nat.Ordering.gt h k = absurd (omega (arith, h, k))
same-order a b nat.Ordering.gt nat.Ordering.lt h k = absurd (omega (arith, h, k))
same-order a b nat.Ordering.gt nat.Ordering.eq h k = absurd (omega (arith, h, k))
same-order a b nat.Ordering.gt nat.Ordering.gt h k = refl

at : (a b : ℕ) (o : nat.Ordering) → Cmp o (a % b * 2) b → closest a b ≡ nearest (a / b) o
at a b o h = ap (nearest (a / b)) (same-order (a % b * 2) b (compare (a % b * 2) b) o (cmp (a % b * 2) b) h)

pub down : (a b : ℕ) → a % b * 2 < b → closest a b ≡ a / b
down a b h = at a b nat.Ordering.lt h

pub even : (a b : ℕ) → a % b * 2 ≡ b → closest a b ≡ a / b + a / b % 2
even a b h = at a b nat.Ordering.eq h

pub up : (a b : ℕ) → b < a % b * 2 → closest a b ≡ a / b + 1
up a b h = at a b nat.Ordering.gt h ∙ sym (add-one (a / b))

-- ---- as the code has it
-- what is added to a carries into its whole part as into the remainder
apart : (a b x y : ℕ) → 0 < b → (a + x + y) / b ≡ (a % b + x + y) / b + a / b
apart a b x y B = ap (λ (z : ℕ). z / b) (moved (a / b * b) (a % b) (div-add-mod' a b)) ∙ add-mul-div_right (a % b + x + y) (a / b) B
  where
    moved : (w r : ℕ) → w + r ≡ a → a + x + y ≡ r + x + y + w
    moved w r e = omega (arith, e)

once : (z b : ℕ) → 0 < b → b ≤ z → z < b + b → z / b ≡ 1
once z b B l u =
    let e : z ≡ (z - b) + 1 * b = omega (arith, l) in
    let less : z - b < b = omega (arith, l, u) in
    ap (λ (x : ℕ). x / b) e ∙ add-mul-div_right (z - b) 1 B ∙ ap (λ (x : ℕ). x + 1) (div-eq_of_lt less)

tie : (x b m : ℕ) → 0 < b → x ≡ b - 1 + m → m < 2 → x / b ≡ m
tie x b zero B e l = let less : x < b = omega (arith, e, B) in div-eq_of_lt less
tie x b (suc zero) B e l = once x b B (omega (arith, e, B)) (omega (arith, e, B))
tie x b (suc (suc m)) B e l = absurd (omega (arith, l))

carry_lt : (x : Bool) (m : ℕ) → m < 2 → cond x m 1 < 2
carry_lt true m l = l
carry_lt false m l = lit< tt

-- n is q units u of (h + h) * 2 ^ 32, part times 2 ^ 32, and low: half a unit less one and the carry, added to part, carry as rounding does
core :
    (n u q part low h : ℕ) → 0 < h → part < h + h → low < 4294967296 → n / u ≡ q → n % u ≡ part * 4294967296 + low → u ≡ (h + h) * 4294967296
    → (part + (h - 1) + cond (eqb low 0) (q % 2) 1) / (h + h) + q ≡ closest n u
core n u q part low h some fits small whole left unit = go (compare part h) (cmp part h)
  where
    B : 0 < h + h
    B = omega (arith, some)

    bit : q % 2 < 2
    bit = mod-lt q (lit< tt)

    few : cond (eqb low 0) (q % 2) 1 < 2
    few = carry_lt (eqb low 0) (q % 2) bit

    below : part < h → closest n u ≡ q
    below l =
        let less : (part * 4294967296 + low) * 2 < u = omega (arith, l, small, unit) in
        down n u (subst (λ (x : ℕ). x * 2 < u) (sym left) less) ∙ whole

    exact : part ≡ h → low ≡ 0 → closest n u ≡ q + q % 2
    exact e z =
        let same : (part * 4294967296 + low) * 2 ≡ u = omega (arith, e, z, unit) in
        even n u (ap (λ (x : ℕ). x * 2) left ∙ same) ∙ ap (λ (x : ℕ). x + x % 2) whole

    above : u < (part * 4294967296 + low) * 2 → closest n u ≡ q + 1
    above l = up n u (subst (λ (x : ℕ). u < x * 2) (sym left) l) ∙ ap (λ (x : ℕ). x + 1) whole

    carried : (c : ℕ) → h + h ≤ part + (h - 1) + c → c < 2 → u < (part * 4294967296 + low) * 2 → (part + (h - 1) + c) / (h + h) + q ≡ closest n u
    carried c l k g =
        ap (λ (x : ℕ). x + q) (once (part + (h - 1) + c) (h + h) B l (omega (arith, fits, some, k)))
        ∙ add_comm 1 q ∙ sym (above g)

    half : part ≡ h → (x : Bool) → eqb low 0 ≡ x → (part + (h - 1) + cond x (q % 2) 1) / (h + h) + q ≡ closest n u
    half e true z =
        ap (λ (x : ℕ). x + q) (tie (part + (h - 1) + q % 2) (h + h) (q % 2) B (omega (arith, e, some)) bit)
        ∙ add_comm (q % 2) q ∙ sym (exact e (eqb-true low 0 z))
    half e false z =
        let there : low ≡ 0 → ⊥ = eqb-false low 0 z in
        carried 1 (omega (arith, e, some)) (lit< tt) (omega (arith, e, there, unit))

    go : (o : nat.Ordering) → Cmp o part h → (part + (h - 1) + cond (eqb low 0) (q % 2) 1) / (h + h) + q ≡ closest n u
    go nat.Ordering.lt l =
        let less : part + (h - 1) + cond (eqb low 0) (q % 2) 1 < h + h = omega (arith, l, some, few) in
        ap (λ (x : ℕ). x + q) (div-eq_of_lt less) ∙ zero-add q ∙ sym (below l)
    go nat.Ordering.eq e = half e (eqb low 0) refl
    go nat.Ordering.gt g = carried (cond (eqb low 0) (q % 2) 1) (omega (arith, g, some)) few (omega (arith, g, unit))

-- the number in two parts, at 2 ^ 32
whole_is : (n b : ℕ) → n / (b * 4294967296) ≡ n / 4294967296 / b
whole_is n b = ap (λ (x : ℕ). n / x) (mul_comm b 4294967296) ∙ sym (div-div-eq-div-mul n 4294967296 b)

rounded : (n h : ℕ) → 0 < h → (n / 4294967296 + (h - 1) + cond (eqb (n % 4294967296) 0) (n / 4294967296 / (h + h) % 2) 1) / (h + h) ≡ closest n ((h + h) * 4294967296)
rounded n h some =
    let B : 0 < h + h = omega (arith, some) in
    apart (n / 4294967296) (h + h) (h - 1) (cond (eqb (n % 4294967296) 0) (n / 4294967296 / (h + h) % 2) 1) B
    ∙ core n ((h + h) * 4294967296) (n / 4294967296 / (h + h)) (n / 4294967296 % (h + h)) (n % 4294967296) h some
    (mod-lt (n / 4294967296) B) (mod-lt n (lit< tt)) (whole_is n (h + h)) (mod-mul n {m = h + h} {c = 4294967296} B (lit< tt)) refl

-- a half of 2 ^ (p - 32) as the code has it, and its units
half_is : (p : ℕ) → p ≤ 95 → 1 * 2 ^ (p - 33) % 18446744073709551616 ≡ 2 ^ (p - 33)
half_is p k = let l : p - 33 < 64 = omega (arith, k) in one_shl (p - 33) 64 l

two_halves : (p : ℕ) → 33 ≤ p → 2 ^ (p - 32) ≡ 2 ^ (p - 33) + 2 ^ (p - 33)
two_halves p k = let e : p - 32 ≡ suc (p - 33) = omega (arith, k) in ap (λ (x : ℕ). 2 ^ x) e ∙ two-pow-succ (p - 33)

units : (p : ℕ) → 33 ≤ p → (2 ^ (p - 33) + 2 ^ (p - 33)) * 4294967296 ≡ 2 ^ p
units p k =
    let e : p - 32 + 32 ≡ p = omega (arith, k) in
    ap (λ (x : ℕ). x * 4294967296) (sym (two_halves p k)) ∙ sym (pow-add 2 (p - 32) 32) ∙ ap (λ (x : ℕ). 2 ^ x) e

half-le : (p : ℕ) → p ≤ 95 → 2 ^ (p - 33) ≤ 2 ^ 62
half-le p k = let l : p - 33 ≤ 62 = omega (arith, k) in pow_mono l

pub rounds :
    (m n p : ℕ) → n ≡ m → 33 ≤ p → p ≤ 95
    → (n * 1000000000 / 4294967296 + (1 * 2 ^ (p - 33) % 18446744073709551616 - 1) + cond (eqb (n * 1000000000 % 4294967296) 0) (n * 1000000000 / 4294967296 / 2 ^ (p - 32) % 2) 1) / 2 ^ (p - 32)
    ≡ closest (m * nanos_per_sec) (2 ^ p)
rounds m n p same k few =
    let a : ℕ = n * 1000000000 in
    ap (λ (x : ℕ). (a / 4294967296 + (x - 1) + cond (eqb (a % 4294967296) 0) (a / 4294967296 / 2 ^ (p - 32) % 2) 1) / 2 ^ (p - 32)) (half_is p few)
    ∙ ap (λ (x : ℕ). (a / 4294967296 + (2 ^ (p - 33) - 1) + cond (eqb (a % 4294967296) 0) (a / 4294967296 / x % 2) 1) / x) (two_halves p k)
    ∙ rounded a (2 ^ (p - 33)) (pow_pos (p - 33))
    ∙ ap (λ (x : ℕ). closest a x) (units p k)
    ∙ ap (λ (x : ℕ). closest (x * nanos_per_sec) (2 ^ p)) same

-- a mantissa's ns in whole units of 2 ^ p
pub whole_lt : (m p : ℕ) → m < 2 ^ 53 → 33 ≤ p → m * nanos_per_sec / 2 ^ p < 2 ^ 50
whole_lt m p h k =
    (div-lt_iff_lt-mul (pow_pos p)).1
    (lt_of_lt_of_le (mul-lt-mul_of_pos_right {k = nanos_per_sec} h (lit< tt)) (le_trans {m = 2 ^ 50 * 2 ^ 33} (lit≤ tt) (mul-le-mul_left (2 ^ 50) (pow_mono k))))

-- ---- by a mask for the remainder, which is compared with the unit
unit_is : (p : ℕ) → p ≤ 95 → 1 * 2 ^ p % 340282366920938463463374607431768211456 ≡ 2 ^ p
unit_is p k = one_shl p 128 (lt_of_le_of_lt k (lit< tt))

compared : (a p : ℕ) → p ≤ 95 → nat_cmp (bit_and a (1 * 2 ^ p % 340282366920938463463374607431768211456 - 1) * 2) (1 * 2 ^ p % 340282366920938463463374607431768211456) ≡ nat_cmp (a % 2 ^ p * 2) (2 ^ p)
compared a p k = ap (λ (x : ℕ). nat_cmp (bit_and a (x - 1) * 2) x) (unit_is p k) ∙ ap (λ (x : ℕ). nat_cmp (x * 2) (2 ^ p)) (and_mask a p)

module _ (m n p : ℕ) (o : Ordering) (same : n ≡ m) (few : p ≤ 95) (is : o ≡ nat_cmp (bit_and (n * 1000000000) (1 * 2 ^ p % 340282366920938463463374607431768211456 - 1) * 2) (1 * 2 ^ p % 340282366920938463463374607431768211456)) where
  order : o ≡ nat_cmp (n * 1000000000 % 2 ^ p * 2) (2 ^ p)
  order = is ∙ compared (n * 1000000000) p few

  with_m : closest (n * 1000000000) (2 ^ p) ≡ closest (m * nanos_per_sec) (2 ^ p)
  with_m = ap (λ (x : ℕ). closest (x * nanos_per_sec) (2 ^ p)) same

  pub rounds_down : o ≡ Less → n * 1000000000 / 2 ^ p ≡ closest (m * nanos_per_sec) (2 ^ p)
  rounds_down e = sym (down (n * 1000000000) (2 ^ p) (ranked (n * 1000000000 % 2 ^ p * 2) (2 ^ p) Less (sym e ∙ order))) ∙ with_m

  pub rounds_even : o ≡ Equal → n * 1000000000 / 2 ^ p + n * 1000000000 / 2 ^ p % 2 ≡ closest (m * nanos_per_sec) (2 ^ p)
  rounds_even e = sym (even (n * 1000000000) (2 ^ p) (ranked (n * 1000000000 % 2 ^ p * 2) (2 ^ p) Equal (sym e ∙ order))) ∙ with_m

  pub rounds_up : o ≡ Greater → n * 1000000000 / 2 ^ p + 1 ≡ closest (m * nanos_per_sec) (2 ^ p)
  rounds_up e = sym (up (n * 1000000000) (2 ^ p) (ranked (n * 1000000000 % 2 ^ p * 2) (2 ^ p) Greater (sym e ∙ order))) ∙ with_m
