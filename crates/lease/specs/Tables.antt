-- Tables by id (rule 5.1): the ids are the places.
use Rattle.std.specs.Prelude.{ℕ, zero, suc, List, [], ◌∷◌}

-- the table t with f applied at each id below n, and as it is from n on
unfoldable pub below : {A : Type 0} → ℕ → (ℕ → A → A) → List A → List A
below zero f t = t
below (suc n) f [] = []
below (suc n) f (x ∷ t) = f 0 x ∷ below n (λ i. f (suc i)) t
