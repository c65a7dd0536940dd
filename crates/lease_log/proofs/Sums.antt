-- Sums over the ids. Assumes nothing.
use mathlib.Core.Path.{◌≡◌, refl}
use mathlib.Core.Bool.{Bool, cond}
use Prim.Native.Nat.{ℕ, zero, suc, ◌+◌, ◌<◌}
use native.Mathlib.Omega.{arith}
use lib.Dec.{eqb}
use borrow.Author.Tests.{ne_eqb}
use Rattle.lease.specs.Sets.{one, count_where}
use Rattle.reachable.proofs.Numbers.{Same, same, apart, sameb}

-- the sum of f over the ids below n
abbrev pub sum_below : ℕ → (ℕ → ℕ) → ℕ
sum_below zero f = 0
sum_below (suc n) f = sum_below n f + f n

pub sum_below-cong : (n : ℕ) (f g : ℕ → ℕ) → ((i : ℕ) → i < n → f i ≡ g i) → sum_below n f ≡ sum_below n g
sum_below-cong zero f g h = refl
sum_below-cong (suc n) f g h = rw (sum_below-cong n f g (λ i l. h i (omega arith)), h n (omega arith))

pub sum_below-add : (n : ℕ) (f g : ℕ → ℕ) → sum_below n (λ i. f i + g i) ≡ sum_below n f + sum_below n g
sum_below-add zero f g = refl
sum_below-add (suc n) f g = let ih = sum_below-add n f g in omega arith

pub sum_below-zero : (n : ℕ) (f : ℕ → ℕ) → ((i : ℕ) → i < n → f i ≡ 0) → sum_below n f ≡ 0
sum_below-zero zero f h = refl
sum_below-zero (suc n) f h =
    let ih = sum_below-zero n f (λ i l. h i (omega arith)) in
    let z = h n (omega arith) in omega arith

-- the sum of what is 0 but at one id
pub sum_below-one : (n q : ℕ) (x : ℕ) → q < n → sum_below n (λ i. cond (eqb q i) x 0) ≡ x
sum_below-one zero q x h = absurd (omega arith)
sum_below-one (suc n) q x h = go (sameb q n) (λ l. sum_below-one n q x l)
  where
    go : Same q n → (q < n → sum_below n (λ i. cond (eqb q i) x 0) ≡ x) → sum_below n (λ i. cond (eqb q i) x 0) + cond (eqb q n) x 0 ≡ x
    go (same e p) ih =
        let z = sum_below-zero n (λ i. cond (eqb q i) x 0) (λ i l. rw (ne_eqb q i (omega arith))) in
        rw e (omega arith)
    go (apart e p) ih = rw e (let z = ih (omega arith) in omega arith)

-- a count is a sum of ones
pub count_where-sum : (n : ℕ) (f : ℕ → Bool) → count_where f n ≡ sum_below n (λ i. one (f i))
unfolding count_where
count_where-sum zero f = refl
count_where-sum (suc n) f = rw (count_where-sum n f)
