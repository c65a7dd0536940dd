-- The law of one pass over the ids: below n each entry is what the rule makes of it, from n on as before.
use Prim.Native.Nat.{ℕ, zero, suc, ◌+◌, ◌<◌, ◌≤◌}
use mathlib.Core.List.{List, [], ◌∷◌}
use mathlib.Core.Path.{◌≡◌, refl, ap}
use native.Mathlib.Nat.{not-suc-le-zero, le_of_suc-le-suc}
use native.Mathlib.Numerals.{add-one}
use lib.ListN.{length, get_or, set}
use Rattle.lease.specs.Tables.{below}

module _ {A : Type 0} where
  pub below_none : (f : ℕ → A → A) (t : List A) → t ≡ below 0 f t
  unfolding below
  below_none f t = refl

  -- the next id's entry is still the old one
  pub below_at : (n : ℕ) (f : ℕ → A → A) (t : List A) (d : A) → get_or (below n f t) n d ≡ get_or t n d
  unfolding below
  below_at zero f t d = refl
  below_at (suc n) f [] d = refl
  below_at (suc n) f (x ∷ t) d = below_at n (λ i. f (suc i)) t d

  below_suc : (n : ℕ) (f : ℕ → A → A) (t : List A) (d : A) → n < length t → set (below n f t) n (f n (get_or t n d)) ≡ below (suc n) f t
  unfolding below
  below_suc n f [] d h = absurd (not-suc-le-zero h)
  below_suc zero f (x ∷ t) d h = refl
  below_suc (suc n) f (x ∷ t) d h = ap (λ (l : List A). f 0 x ∷ l) (below_suc n (λ i. f (suc i)) t d (le_of_suc-le-suc h))

  -- a turn of the loop
  pub below_more : (n : ℕ) (f : ℕ → A → A) (t : List A) (d : A) → n < length t → set (below n f t) n (f n (get_or t n d)) ≡ below (n + 1) f t
  below_more n f t d h = rw add-one (below_suc n f t d h)

  pub length-below : (n : ℕ) (f : ℕ → A → A) (t : List A) → length (below n f t) ≡ length t
  unfolding below
  length-below zero f t = refl
  length-below (suc n) f [] = refl
  length-below (suc n) f (x ∷ t) = ap suc (length-below n (λ i. f (suc i)) t)

  -- with the ids below n done: below n each entry is what the rule makes of it
  pub below-done : (n i : ℕ) (f : ℕ → A → A) (t : List A) (d : A) → i < n → i < length t → get_or (below n f t) i d ≡ f i (get_or t i d)
  unfolding below
  below-done zero i f t d h k = absurd (not-suc-le-zero h)
  below-done (suc n) i f [] d h k = absurd (not-suc-le-zero k)
  below-done (suc n) zero f (x ∷ t) d h k = refl
  below-done (suc n) (suc i) f (x ∷ t) d h k = below-done n i (λ j. f (suc j)) t d (le_of_suc-le-suc h) (le_of_suc-le-suc k)

  -- and from n on as before
  pub below_rest : (n i : ℕ) (f : ℕ → A → A) (t : List A) (d : A) → n ≤ i → get_or (below n f t) i d ≡ get_or t i d
  unfolding below
  below_rest zero i f t d h = refl
  below_rest (suc n) i f [] d h = refl
  below_rest (suc n) zero f (x ∷ t) d h = absurd (not-suc-le-zero h)
  below_rest (suc n) (suc i) f (x ∷ t) d h = below_rest n i (λ j. f (suc j)) t d (le_of_suc-le-suc h)
