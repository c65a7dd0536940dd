-- What an array's `map` gives: the list's `map`, where each call gives what the function says. Assumes nothing.
use Rattle.std.proofs.Common.{◌≡◌, ℕ, ◌<◌, List, [], ◌∷◌, map, length, get_or, sym, ◌∙◌, subst, refl, arith}
use denote.Param.Members.{Mut, Called}
use Rattle.std.proofs.lemmas.List.{same_lists, get_or-map, length-map}
use Rattle.std.specs.Array.{IsMapOf}

module _ {F A B : Type 0} (g : Mut F (A × Unit {0}) B) (h : A → B) (says : (p q : F) (x : A) (y : B) → Called g p (x, tt) y q → y ≡ h x) where
  none : (ys : List B) → length ys ≡ 0 → ys ≡ []
  none [] e = refl
  none (y ∷ ys) e = absurd (omega arith)

  pub mapped : (f : F) (xs : List A) (ys : List B) (n : ℕ) → length xs ≡ n → IsMapOf g f xs ys n → ys ≡ map h xs
  mapped f [] ys n e m = none ys (m.long ∙ sym e)
  mapped f (a ∷ xs) ys n e m =
      same_lists ys (map h (a ∷ xs)) (m.long ∙ sym e ∙ sym (length-map (a ∷ xs) h))
      (λ k d lt.
      let s : k < n = subst (λ (z : ℕ). k < z) m.long lt in
      let r = m.at k a d s in
      says r.0 r.1 (get_or (a ∷ xs) k a) (get_or ys k d) r.2 ∙ sym (get_or-map h (a ∷ xs) k a d (subst (λ (z : ℕ). k < z) (sym e) s)))
