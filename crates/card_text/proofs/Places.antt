-- Digits put into columns that stand blank, from the right, two at a time. Assumes nothing.
use Rattle.std.proofs.Common.{◌≡◌, ◌∙◌, refl, sym, ap, ℕ, zero, suc, ◌+◌, ◌/◌, ◌%◌, ◌≤◌, ◌<◌, List, [], ◌∷◌, ◌++◌, length, take, drop, append_assoc, arith, length-set}
use borrow.Author.Tests.{ne_eqb}
use lib.ListN.{set, replicate}
use Rattle.std.proofs.lemmas.List.{drop-set, take-append-drop, take-take, take-replicate, take-set, take-set-le}
use Rattle.card_text.specs.Columns.{digit, place_byte, places, column}
use Rattle.card_text.proofs.Fields.{places_zero}

-- The number's columns: the last of them stand in the list, the first i are still to be put.
abbrev pub put_from : List ℕ → ℕ → ℕ → List ℕ
put_from xs i rest = column i rest ++ drop i xs

-- ---- the columns of a number

-- where a digit is left, the last column is as a place before the last
column_places : (w n : ℕ) → 0 < n → column w n ≡ places w n
unfolding column places
column_places zero n h = refl
column_places (suc w) n h = rw (ne_eqb n 0 (λ z. omega (arith, z))) refl

-- the last two columns, and the places before them
column_two : (k n : ℕ) → column (k + 2) n ≡ places k (n / 100) ++ (place_byte (n / 10) ∷ digit (n % 10) ∷ [])
unfolding column places
column_two k n =
    let q : n / 100 ≡ n / 10 / 10 = omega arith in
    let e : k + 2 ≡ suc (suc k) = omega arith in
    rw (e, q) (append_assoc (places k (n / 10 / 10)) (place_byte (n / 10) ∷ []) (digit (n % 10) ∷ []))

-- ---- two bytes put at k

module _ (xs : List ℕ) (i k a b : ℕ) (e : i ≡ k + 2) where
  abbrev after : List ℕ
  after = set (set xs (k + 1) b) k a

  drop_two : i ≤ length xs → drop k after ≡ a ∷ b ∷ drop (k + 2) xs
  drop_two h =
      let f : k + 1 + 1 ≡ k + 2 = omega arith in
      rw (drop-set (set xs (k + 1) b) k a (rw length-set (omega arith)), drop-set xs (k + 1) b (omega arith), f) refl

  -- the columns left of them still stand blank
  pub left_blank : take i xs ≡ replicate {A = ℕ} i 32 → take k after ≡ replicate {A = ℕ} k 32
  left_blank f =
      rw (take-set (set xs (k + 1) b) k a, take-set-le k xs (k + 1) b (omega arith))
      (sym (take-take k i xs (omega arith)) ∙ ap (take k) f ∙ take-replicate k i 32 (omega arith))

-- ---- what put_digits does

-- two digits, where more are left
pub pair_put :
    (xs : List ℕ) (i k rest : ℕ) → i ≡ k + 2 → i ≤ length xs → 100 ≤ rest
    → put_from (set (set xs (k + 1) (digit (rest % 10))) k (digit (rest / 10 % 10))) k (rest / 100) ≡ put_from xs i rest
pair_put xs i k rest e h p =
    let two = drop_two xs i k (digit (rest / 10 % 10)) (digit (rest % 10)) e h in
    rw (two, e, column_two k rest, column_places k (rest / 100) (omega arith), ne_eqb (rest / 10) 0 (λ z. omega (arith, z)))
    (sym (append_assoc (places k (rest / 100)) (digit (rest / 10 % 10) ∷ digit (rest % 10) ∷ []) (drop (k + 2) xs)))

-- the first two
pub first_put :
    (xs : List ℕ) (i k rest : ℕ) → i ≡ k + 2 → i ≤ length xs → take i xs ≡ replicate {A = ℕ} i 32 → rest < 100
    → set (set xs (k + 1) (digit (rest % 10))) k (place_byte (rest / 10)) ≡ put_from xs i rest
first_put xs i k rest e h f p =
    let a = place_byte (rest / 10) in
    let b = digit (rest % 10) in
    let ys = set (set xs (k + 1) b) k a in
    let q : rest / 100 ≡ 0 = omega arith in
    let left : take k ys ≡ places k (rest / 100) = left_blank xs i k a b e f ∙ sym (places_zero k) ∙ ap (places k) (sym q) in
    let right : drop k ys ≡ a ∷ b ∷ drop (k + 2) xs = drop_two xs i k a b e h in
    let whole : ys ≡ places k (rest / 100) ++ (a ∷ b ∷ drop (k + 2) xs) = sym (take-append-drop k ys) ∙ ap (λ l. l ++ drop k ys) left ∙ ap (λ l. places k (rest / 100) ++ l) right in
    whole ∙ sym (append_assoc (places k (rest / 100)) (a ∷ b ∷ []) (drop (k + 2) xs)) ∙ ap (λ l. l ++ drop (k + 2) xs) (sym (column_two k rest)) ∙ ap (λ j. put_from xs j rest) (sym e)

-- the last one that has room
pub one_put : (xs : List ℕ) (i rest : ℕ) → i ≡ 1 → i ≤ length xs → set xs 0 (digit (rest % 10)) ≡ put_from xs i rest
unfolding column places
one_put [] i rest e h = absurd (omega (arith, e, h))
one_put (x ∷ xs) i rest e h = rw e refl

-- none has room
pub none_put : (xs : List ℕ) (i rest : ℕ) → i ≡ 0 → xs ≡ put_from xs i rest
unfolding column
none_put xs i rest e = rw e refl
