-- Sets of ids as numbers and counts of ids: as the ids are gone through, and for any number n of ids membership, equality, insertion, union, complement and count. Assumes nothing.
use Prim.Native.Nat.{ℕ, zero, suc, ◌+◌, ◌^◌, ◌<◌, ◌≤◌, ◌*◌, ◌-◌, ◌/◌, ◌%◌}
use mathlib.Core.Bool.{Bool, true, false, not, ◌||◌}
use mathlib.Core.Path.{◌≡◌, refl, sym, ap, ◌∙◌}
use native.Mathlib.Nat.{two-pow-succ, add-mul-div_right, add-mul-mod_self_right, div-eq_of_lt, mod-eq_of_lt, mod-one}
use native.Mathlib.Numerals.{add-one, one-add}
use native.Mathlib.Omega.{arith}
use Rattle.bitmap.specs.Sets.{weight, ids_where, one, count_where, member}
use lib.Dec.{eqb, leb, ltb}
use lib.Pow.{pow_pos, pow_mono, pow-add, mod-pow-add}
use borrow.Author.Tests.{eqb-true, eqb-false, eq-eqb, ne_eqb, leb-true, leb-false, ltb-true, ltb-false}

-- ---- one id more
pub ids_where-more : (p : ℕ → Bool) (n : ℕ) → ids_where p n + weight (p n) n ≡ ids_where p (n + 1)
unfolding ids_where
ids_where-more p n = rw add-one

pub weight-le : (b : Bool) (n : ℕ) → weight b n ≤ 2 ^ n
weight-le true n = omega arith
weight-le false n = omega arith

pub ids_where-lt : (p : ℕ → Bool) (n : ℕ) → ids_where p n < 2 ^ n
unfolding ids_where
ids_where-lt p zero = omega arith
ids_where-lt p (suc n) = omega (arith, ids_where-lt p n, weight-le (p n) n, two-pow-succ n)

pub count_where-more : (p : ℕ → Bool) (n : ℕ) → count_where p n + one (p n) ≡ count_where p (n + 1)
unfolding count_where
count_where-more p n = rw add-one

pub one-le : (b : Bool) → one b ≤ 1
one-le true = omega arith
one-le false = omega arith

pub count_where-le : (p : ℕ → Bool) (n : ℕ) → count_where p n ≤ n
unfolding count_where
count_where-le p zero = omega arith
count_where-le p (suc n) = omega (arith, count_where-le p n, one-le (p n))

-- ---- membership
weight-one : (b : Bool) (n : ℕ) → weight b n ≡ one b * 2 ^ n
weight-one true n = omega arith
weight-one false n = omega arith

-- a number below 2 ^ n has no id at or above n
pub member-beyond : (s n i : ℕ) → s < 2 ^ n → n ≤ i → member s i ≡ false
member-beyond s n i l h = let m = pow_mono h in let less : s < 2 ^ i = omega arith in rw (div-eq_of_lt less)

-- at or above n nothing is in it
pub member-above : (p : ℕ → Bool) (n i : ℕ) → n ≤ i → member (ids_where p n) i ≡ false
member-above p n i h = member-beyond (ids_where p n) n i (ids_where-lt p n) h

-- below n, what the test says
pub member_below : (p : ℕ → Bool) (n i : ℕ) → i < n → member (ids_where p n) i ≡ p i
unfolding ids_where
member_below p zero i h = absurd (omega arith)
member_below p (suc n) i h = rw (weight-one (p n) n) (go (eqb i n) refl (λ l. member_below p n i l))
  where
    test : (b : Bool) → eqb (one b % 2) 1 ≡ b
    test true = refl
    test false = refl

    at : (ids_where p n + one (p n) * 2 ^ n) / 2 ^ n ≡ one (p n)
    at = add-mul-div_right (ids_where p n) (one (p n)) (pow_pos n) ∙ rw (div-eq_of_lt (ids_where-lt p n)) (omega arith)

    shuffle : (b x y : ℕ) → b * (x * (y + y)) ≡ b * x * 2 * y
    shuffle b x y = omega arith

    -- the new id lies above
    up : i < n → (ids_where p n + one (p n) * 2 ^ n) / 2 ^ i % 2 ≡ ids_where p n / 2 ^ i % 2
    up l =
        let k : ℕ = n - suc i in
        let e : n ≡ k + suc i = omega arith in
        let q : one (p n) * 2 ^ n ≡ (one (p n) * 2 ^ k * 2) * 2 ^ i = ap (λ x. one (p n) * 2 ^ x) e ∙ rw (pow-add 2 k (suc i), two-pow-succ i) (shuffle (one (p n)) (2 ^ k) (2 ^ i)) in
        rw (q, add-mul-div_right (ids_where p n) (one (p n) * 2 ^ k * 2) (pow_pos i), add-mul-mod_self_right (ids_where p n / 2 ^ i) (one (p n) * 2 ^ k) 2)

    go : (x : Bool) → eqb i n ≡ x → (i < n → member (ids_where p n) i ≡ p i) → member (ids_where p n + one (p n) * 2 ^ n) i ≡ p i
    go true e ih = rw (eqb-true i n e, at) (test (p n))
    go false e ih = let ne = eqb-false i n e in rw (up (lower ne)) (ih (lower ne))
      where
        lower : (i ≡ n → ⊥) → i < n
        lower ne = omega (arith, ne)

-- ---- sets and counts by their tests
-- two tests that agree below n
pub ids_where-same : (p q : ℕ → Bool) (n : ℕ) → ((i : ℕ) → i < n → p i ≡ q i) → ids_where p n ≡ ids_where q n
unfolding ids_where
ids_where-same p q zero e = refl
ids_where-same p q (suc n) e = cc (ids_where-same p q n (λ i l. e i (omega arith)), e n (omega arith))

pub count_where-same : (p q : ℕ → Bool) (n : ℕ) → ((i : ℕ) → i < n → p i ≡ q i) → count_where p n ≡ count_where q n
unfolding count_where
count_where-same p q zero e = refl
count_where-same p q (suc n) e = cc (count_where-same p q n (λ i l. e i (omega arith)), e n (omega arith))

-- more ids, no fewer of them taken
pub count_where-mono : (p : ℕ → Bool) (i n : ℕ) → i ≤ n → count_where p i ≤ count_where p n
unfolding count_where
count_where-mono p i zero h = let e : i ≡ 0 = omega arith in rw e (omega arith)
count_where-mono p i (suc n) h = go (leb i n) refl (λ l. count_where-mono p i n l)
  where
    go : (x : Bool) → leb i n ≡ x → (i ≤ n → count_where p i ≤ count_where p n) → count_where p i ≤ count_where p n + one (p n)
    go true e ih = let l = ih (leb-true i n e) in omega arith
    go false e ih = let l = leb-false i n e in let same : i ≡ suc n = omega arith in rw same (omega arith)

-- nothing taken, nothing in it
pub ids_where-empty : (p : ℕ → Bool) (n : ℕ) → ((i : ℕ) → i < n → p i ≡ false) → ids_where p n ≡ 0
unfolding ids_where
ids_where-empty p zero e = refl
ids_where-empty p (suc n) e = rw (e n (omega arith), ids_where-empty p n (λ i l. e i (omega arith))) (omega arith)

-- all taken
pub ids_where-all : (n : ℕ) → ids_where (λ i. true) n + 1 ≡ 2 ^ n
unfolding ids_where
ids_where-all zero = refl
ids_where-all (suc n) = omega (arith, ids_where-all n, two-pow-succ n)

-- none of n ids taken: what a count of 0 says
pub count_where-none : (p : ℕ → Bool) (n : ℕ) → count_where p n ≡ 0 → (i : ℕ) → i < n → p i ≡ false
unfolding count_where
count_where-none p zero e i h = absurd (omega arith)
count_where-none p (suc n) e i h = go (eqb i n) refl (count_where-none p n (omega arith) i)
  where
    zeroed : (b : Bool) → one b ≡ 0 → b ≡ false
    zeroed true e = absurd (omega arith)
    zeroed false e = refl

    go : (x : Bool) → eqb i n ≡ x → (i < n → p i ≡ false) → p i ≡ false
    go true e' ih = rw (eqb-true i n e') (zeroed (p n) (omega arith))
    go false e' ih = let ne = eqb-false i n e' in ih (omega (arith, ne))

-- a count of 0 is the empty set, and the empty set's count is 0
pub count-empty : (p : ℕ → Bool) (n : ℕ) → count_where p n ≡ 0 → ids_where p n ≡ 0
count-empty p n e = ids_where-empty p n (count_where-none p n e)

pub empty-count : (p : ℕ → Bool) (n : ℕ) → ids_where p n ≡ 0 → count_where p n ≡ 0
unfolding ids_where count_where
empty-count p zero e = refl
empty-count p (suc n) e = rw (empty-count p n (omega arith)) (last (p n) (omega arith))
  where
    last : (b : Bool) → weight b n ≡ 0 → 0 + one b ≡ 0
    last true e = let l = pow_pos n in absurd (omega arith)
    last false e = refl

-- the count of the number is the count of the ids that its test takes
pub count_where-member : (p : ℕ → Bool) (n : ℕ) → count_where (member (ids_where p n)) n ≡ count_where p n
count_where-member p n = count_where-same (member (ids_where p n)) p n (λ i h. member_below p n i h)

-- ---- numbers by their members
-- the ids below n of a number are what 2 ^ n leaves of it
ids_where-mod : (s n : ℕ) → ids_where (member s) n ≡ s % 2 ^ n
unfolding ids_where
ids_where-mod s zero = sym (mod-one s)
ids_where-mod s (suc n) = rw (ids_where-mod s n, weight-one (member s n) n, bit (s / 2 ^ n)) (omega (arith, rw one-add at (mod-pow-add s 1 n)))
  where
    bit : (x : ℕ) → one (eqb (x % 2) 1) ≡ x % 2
    bit x = go (eqb (x % 2) 1) refl
      where
        go : (y : Bool) → eqb (x % 2) 1 ≡ y → one y ≡ x % 2
        go true e = sym (eqb-true (x % 2) 1 e)
        go false e = let ne = eqb-false (x % 2) 1 e in omega (arith, ne)

-- a number below 2 ^ n is the set of its members
pub ids_where-member : (s n : ℕ) → s < 2 ^ n → ids_where (member s) n ≡ s
ids_where-member s n h = ids_where-mod s n ∙ mod-eq_of_lt h

-- two numbers below 2 ^ n with the same members are equal
pub member-same : (s t n : ℕ) → s < 2 ^ n → t < 2 ^ n → ((i : ℕ) → i < n → member s i ≡ member t i) → s ≡ t
member-same s t n hs ht e = sym (ids_where-member s n hs) ∙ ids_where-same (member s) (member t) n e ∙ ids_where-member t n ht

-- where the test says false at and above n, membership is what the test says everywhere
pub member-where : (p : ℕ → Bool) (n i : ℕ) → (n ≤ i → p i ≡ false) → member (ids_where p n) i ≡ p i
member-where p n i none = go (ltb i n) refl
  where
    go : (x : Bool) → ltb i n ≡ x → member (ids_where p n) i ≡ p i
    go true e = member_below p n i (ltb-true i n e)
    go false e = let h = ltb-false i n e in member-above p n i h ∙ sym (none h)

-- insertion: an id above all that the set has
pub member-insert : (s i k : ℕ) → s < 2 ^ i → member (s + 2 ^ i) k ≡ (eqb k i || member s k)
unfolding ids_where
member-insert s i k h = rw (← sum) (member-where q (suc i) k above)
  where
    q : ℕ → Bool
    q j = eqb j i || member s j

    below : (j : ℕ) → j < i → q j ≡ member s j
    below j l = rw (ne_eqb j i (λ e. omega arith))

    sum : ids_where q (suc i) ≡ s + 2 ^ i
    sum = rw (ids_where-same q (member s) i below, ids_where-member s i h, eq-eqb i i refl)

    above : suc i ≤ k → q k ≡ false
    above l = rw (ne_eqb k i (λ e. omega arith)) (member-beyond s i k h (omega arith))

-- union
pub member_union : (s t n i : ℕ) → s < 2 ^ n → t < 2 ^ n → member (ids_where (λ k. member s k || member t k) n) i ≡ (member s i || member t i)
member_union s t n i hs ht = member-where (λ k. member s k || member t k) n i (λ h. rw (member-beyond s n i hs h, member-beyond t n i ht h))

-- ---- complement
-- complement: of each id below n the other flag, together all n ids
pub member-not : (s n i : ℕ) → i < n → member (ids_where (λ k. not (member s k)) n) i ≡ not (member s i)
member-not s n i h = member_below (λ k. not (member s k)) n i h

pub ids_where-not : (p : ℕ → Bool) (n : ℕ) → ids_where p n + ids_where (λ k. not (p k)) n + 1 ≡ 2 ^ n
unfolding ids_where
ids_where-not p zero = refl
ids_where-not p (suc n) = omega (arith, ids_where-not p n, two-pow-succ n, both (p n))
  where
    both : (b : Bool) → weight b n + weight (not b) n ≡ 2 ^ n
    both true = omega arith
    both false = omega arith

pub count_where-not : (p : ℕ → Bool) (n : ℕ) → count_where p n + count_where (λ k. not (p k)) n ≡ n
unfolding count_where
count_where-not p zero = refl
count_where-not p (suc n) = omega (arith, count_where-not p n, both (p n))
  where
    both : (b : Bool) → one b + one (not b) ≡ 1
    both true = refl
    both false = refl
