-- The tables of two digits. Assumes nothing.
use Rattle.std.proofs.Common.{◌≡◌, ◌∙◌, ap, ℕ, zero, suc, ◌+◌, ◌-◌, ◌*◌, ◌/◌, ◌%◌, ◌<◌, Bool, true, ◌&&◌, T, eqb, List, get_or, inl, inr, arith, eq-zero-or-pos, eqb→eq}
use lib.Ieee.Fits.{and_l, and_r}
use Rattle.card_text.specs.declared.columns.TheConstants.{PAIRS, FIRST_PAIRS}
use Rattle.card_text.specs.Columns.{digit, place_byte}

-- Of each number below n, what it has in front stands in the table, and its last digit behind that.
abbrev are_pairs : List ℕ → (ℕ → ℕ) → ℕ → Bool
are_pairs table front zero = true
are_pairs table front (suc p) = (eqb (get_or table (p * 2) 0) (front p) && eqb (get_or table (p * 2 + 1) 0) (digit (p % 10))) && are_pairs table front p

below : (table : List ℕ) (front : ℕ → ℕ) (n p : ℕ) → T (are_pairs table front n) → p < n → (get_or table (p * 2) 0 ≡ front p) × (get_or table (p * 2 + 1) 0 ≡ digit (p % 10))
below table front zero p t h = absurd (omega arith)
below table front (suc n) p t h =
    elim (eq-zero-or-pos (n - p)) [
      | inl z ↦ let e : p ≡ n = omega arith in let a = and_l _ (are_pairs table front n) t in rw e (eqb→eq _ _ (and_l _ _ a), eqb→eq _ _ (and_r _ _ a))
      | inr g ↦ below table front n p (and_r _ (are_pairs table front n) t) (omega arith)
    ]

-- a number's last two digits
pub pair_at : (n : ℕ) → (get_or PAIRS (n % 100 * 2) 0 ≡ digit (n / 10 % 10)) × (get_or PAIRS (n % 100 * 2 + 1) 0 ≡ digit (n % 10))
pair_at n =
    let p = below PAIRS (λ k. digit (k / 10)) 100 (n % 100) tt (omega arith) in
    let tens : n % 100 / 10 ≡ n / 10 % 10 = omega arith in
    let ones : n % 100 % 10 ≡ n % 10 = omega arith in
    (p.0 ∙ ap digit tens, p.1 ∙ ap digit ones)

-- a number below 100
pub first_pair_at : (n : ℕ) → n < 100 → (get_or FIRST_PAIRS (n * 2) 0 ≡ place_byte (n / 10)) × (get_or FIRST_PAIRS (n * 2 + 1) 0 ≡ digit (n % 10))
first_pair_at n h = below FIRST_PAIRS (λ k. place_byte (k / 10)) 100 n tt h
