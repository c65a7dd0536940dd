-- A field read from a place of its bytes on: what blanks, digits and the end give there; and places where nothing is left of a number.
-- Assumes nothing.
use Prim.Native.Nat.{ℕ, zero, suc, ◌+◌, ◌*◌, ◌-◌, ◌≤◌, ◌<◌}
use mathlib.Core.Path.{◌≡◌, refl, sym, ap, ◌∙◌}
use mathlib.Core.Logic.{◌≢◌}
use mathlib.Core.Bool.{Bool, true, false, cond, ◌&&◌, true≢false}
use mathlib.Core.List.{List, [], ◌∷◌, ◌++◌}
use native.Mathlib.Omega.{arith}
use native.Mathlib.Numerals.{add-one}
use borrow.Author.Tests.{le-leb, leb-true, leb-false, ne_eqb, eqb-true, eqb-false}
use lib.Dec.{eqb, leb}
use lib.ListN.{length, take, drop, get_or, replicate}
use Rattle.std.specs.Prelude.{Option, Some, None}
use Rattle.std.specs.Bool.{then_some}
use Rattle.std.specs.Char.{is_ascii_digit}
use Rattle.std.proofs.Common.{lit<, drop-cons}
use Rattle.std.proofs.lemmas.Bool.{lt-leb}
use Rattle.std.proofs.lemmas.List.{drop_all, take_all, length-drop}
use Rattle.card_text.specs.Field.{Field}
use Rattle.card_text.specs.Field as F
use Rattle.card_text.specs.Columns.{is_digit, first_byte, next_byte, lengthened, field_step, field_from, number_in, number_of, number_behind, max_number, places}
use Rattle.card_text.proofs.Numbers.{field_from-append}

-- the code's test of a digit is the rules'
pub digit_same : (b : ℕ) → is_ascii_digit b ≡ is_digit b
digit_same b = both (leb 48 b) (leb b 57)
  where
    both : (x y : Bool) → (x && y) ≡ cond x y false
    both true y = refl
    both false y = refl

-- what is no number stays none
none_stays : (bs : List ℕ) → number_in (field_from F.Bad bs) ≡ None
unfolding field_from field_step number_in
none_stays [] = refl
none_stays (b ∷ bs) = none_stays bs

-- ---- a byte in front of others, behind the digits of v

pub digit_more : (v b : ℕ) (bs : List ℕ) → is_digit b ≡ true → v * 10 + (b - 48) ≤ max_number → number_behind v (b ∷ bs) ≡ number_behind (v * 10 + (b - 48)) bs
unfolding field_from field_step next_byte
digit_more v b bs d h = rw (d, le-leb (v * 10 + (b - 48)) max_number h) refl

digit_over : (v b : ℕ) (bs : List ℕ) → max_number < v * 10 + (b - 48) → number_behind v (b ∷ bs) ≡ None
unfolding field_from field_step next_byte
digit_over v b bs h = go (is_digit b)
  where
    go : (x : Bool) → number_in (field_from (cond x (lengthened (v * 10 + (b - 48))) F.Bad) bs) ≡ None
    go true = rw (lt-leb (v * 10 + (b - 48)) max_number h) (none_stays bs)
    go false = none_stays bs

pub other_more : (v b : ℕ) (bs : List ℕ) → is_digit b ≡ false → number_behind v (b ∷ bs) ≡ None
unfolding field_from field_step next_byte
other_more v b bs d = rw d (none_stays bs)

pub none_more : (v : ℕ) → number_behind v [] ≡ Some v
unfolding field_from number_in
none_more v = refl

-- ---- a byte in front of others, behind blanks

pub blank_first : (bs : List ℕ) → number_of (32 ∷ bs) ≡ number_of bs
unfolding field_from field_step first_byte
blank_first bs = refl

pub zero_first : (b : ℕ) (bs : List ℕ) → number_of (48 ∷ b ∷ bs) ≡ None
unfolding field_from field_step first_byte
zero_first b bs = none_stays bs

pub digit_first : (b : ℕ) (bs : List ℕ) → is_digit b ≡ true → b ≢ 32 → b ≢ 48 → number_of (b ∷ bs) ≡ number_behind (b - 48) bs
unfolding field_from field_step first_byte
digit_first b bs d e f = rw (ne_eqb b 32 e, ne_eqb b 48 f, d) refl

pub other_first : (b : ℕ) (bs : List ℕ) → is_digit b ≡ false → b ≢ 32 → number_of (b ∷ bs) ≡ None
unfolding field_from field_step first_byte
other_first b bs d e = rw (ne_eqb b 32 e) (go (eqb b 48) refl)
  where
    go : (x : Bool) → eqb b 48 ≡ x → number_in (field_from (cond x F.Zero (cond (is_digit b) (F.Number (b - 48)) F.Bad)) bs) ≡ None
    go true q = absurd (true≢false (rw (eqb-true b 48 q) at d))
    go false q = rw d (none_stays bs)

-- ---- a byte alone

pub digit_alone : (b : ℕ) → is_digit b ≡ true → number_of (b ∷ []) ≡ Some (b - 48)
unfolding field_from field_step first_byte number_in
digit_alone b d = go (eqb b 32) (eqb b 48) refl refl
  where
    go : (x y : Bool) → eqb b 32 ≡ x → eqb b 48 ≡ y → number_of (b ∷ []) ≡ Some (b - 48)
    go true y e f = absurd (true≢false (sym d ∙ ap is_digit (eqb-true b 32 e)))
    go false true e f = rw (eqb-true b 48 f) refl
    go false false e f = rw (e, f, d) refl

pub other_alone : (b : ℕ) → is_digit b ≡ false → number_of (b ∷ []) ≡ None
unfolding field_from number_in
other_alone b d = go (eqb b 32) refl
  where
    go : (x : Bool) → eqb b 32 ≡ x → number_of (b ∷ []) ≡ None
    go true e = rw (eqb-true b 32 e) (blank_first [])
    go false e = other_first b [] d (eqb-false b 32 e)

-- ---- the same at place i

module _ (s : List ℕ) (i : ℕ) where
  -- the byte there
  abbrev byte : ℕ
  byte = get_or s i 0

  from : i < length s → drop i s ≡ byte ∷ drop (i + 1) s
  from h = rw add-one (drop-cons s i 0 h)

  pub more_at : (v : ℕ) → i < length s → is_digit byte ≡ true → v * 10 + (byte - 48) ≤ max_number → number_behind v (drop i s) ≡ number_behind (v * 10 + (byte - 48)) (drop (i + 1) s)
  more_at v h d m = rw (from h) (digit_more v byte (drop (i + 1) s) d m)

  pub over_at : (v : ℕ) → i < length s → max_number < v * 10 + (byte - 48) → number_behind v (drop i s) ≡ None
  over_at v h m = rw (from h) (digit_over v byte (drop (i + 1) s) m)

  pub none_at : (v : ℕ) → i < length s → is_digit byte ≡ false → number_behind v (drop i s) ≡ None
  none_at v h d = rw (from h) (other_more v byte (drop (i + 1) s) d)

  pub end_at : (v : ℕ) → length s ≤ i → number_behind v (drop i s) ≡ Some v
  unfolding field_from number_in
  end_at v h = rw (drop_all i s h) refl

  pub blank_at : i < length s → byte ≡ 32 → number_of (drop i s) ≡ number_of (drop (i + 1) s)
  blank_at h e = rw (from h, e) (blank_first (drop (i + 1) s))

  pub nothing_at : length s ≤ i → number_of (drop i s) ≡ None
  unfolding field_from number_in
  nothing_at h = rw (drop_all i s h) refl

  pub first_at : i < length s → is_digit byte ≡ true → byte ≢ 48 → byte ≢ 32 → number_of (drop i s) ≡ number_behind (byte - 48) (drop (i + 1) s)
  first_at h d f e = rw (from h) (digit_first byte (drop (i + 1) s) d e f)

  pub other_at : i < length s → is_digit byte ≡ false → byte ≢ 32 → number_of (drop i s) ≡ None
  other_at h d e = rw (from h) (other_first byte (drop (i + 1) s) d e)

  -- a slice from there to the end
  pub rest_at : take (length s - i) (drop i s) ≡ drop i s
  rest_at = take_all (length s - i) (drop i s) (rw (length-drop i s) (omega arith))

-- the digit 0 is the number where nothing follows it
pub zero_at : (s : List ℕ) (i : ℕ) → i < length s → get_or s i 0 ≡ 48 → then_some {T = ℕ} (eqb (i + 1) (length s)) 0 ≡ number_of (drop i s)
unfolding field_from field_step first_byte number_in
zero_at s i h e = rw (from s i h, e) (go (eqb (i + 1) (length s)) refl)
  where
    go : (x : Bool) → eqb (i + 1) (length s) ≡ x → then_some {T = ℕ} x 0 ≡ number_of (48 ∷ drop (i + 1) s)
    go true q = let end : length s ≤ i + 1 = omega (arith, eqb-true (i + 1) (length s) q) in rw (drop_all (i + 1) s end) refl
    go false q =
        let more : i + 1 < length s = omega (arith, h, eqb-false (i + 1) (length s) q) in
        rw (from s (i + 1) more) (sym (zero_first (get_or s (i + 1) 0) (drop (i + 1 + 1) s)))

-- ---- eight bytes from place i on

abbrev pub eight : List ℕ → ℕ → List ℕ
eight s i = get_or s i 0 ∷ get_or s (i + 1) 0 ∷ get_or s (i + 2) 0 ∷ get_or s (i + 3) 0 ∷ get_or s (i + 4) 0 ∷ get_or s (i + 5) 0 ∷ get_or s (i + 6) 0 ∷ get_or s (i + 7) 0 ∷ []

step : (s : List ℕ) (j k : ℕ) → j + 1 ≡ k → j < length s → drop j s ≡ get_or s j 0 ∷ drop k s
step s j k e h = from s j h ∙ ap (λ (l : ℕ). get_or s j 0 ∷ drop l s) e

pub eight_rest : (s : List ℕ) (i : ℕ) → i + 8 ≤ length s → drop i s ≡ eight s i ++ drop (i + 8) s
eight_rest s i h =
    rw (step s i (i + 1) refl (omega arith), step s (i + 1) (i + 2) (omega arith) (omega arith), step s (i + 2) (i + 3) (omega arith) (omega arith), step s (i + 3) (i + 4) (omega arith) (omega arith), step s (i + 4) (i + 5) (omega arith) (omega arith), step s (i + 5) (i + 6) (omega arith) (omega arith), step s (i + 6) (i + 7) (omega arith) (omega arith), step s (i + 7) (i + 8) (omega arith) (omega arith))
    refl

pub eight_from : (s : List ℕ) (i : ℕ) → i + 8 ≤ length s → take 8 (drop i s) ≡ eight s i
eight_from s i h = ap (take 8) (eight_rest s i h)

abbrev pub blanks : List ℕ
blanks = 32 ∷ 32 ∷ 32 ∷ 32 ∷ 32 ∷ 32 ∷ 32 ∷ 32 ∷ []

next : (s : List ℕ) (i k : ℕ) → i < length s → get_or s i 0 ≡ 32 → i + 1 ≡ k → number_of (drop i s) ≡ number_of (drop k s)
next s i k h e q = blank_at s i h e ∙ ap (λ (j : ℕ). number_of (drop j s)) q

pub blanks_at : (s : List ℕ) (i : ℕ) → i + 8 ≤ length s → eight s i ≡ blanks → number_of (drop i s) ≡ number_of (drop (i + 8) s)
blanks_at s i h e =
    next s i (i + 1) (omega arith) (ap (λ (l : List ℕ). get_or l 0 0) e) refl
    ∙ next s (i + 1) (i + 2) (omega arith) (ap (λ (l : List ℕ). get_or l 1 0) e) (omega arith)
    ∙ next s (i + 2) (i + 3) (omega arith) (ap (λ (l : List ℕ). get_or l 2 0) e) (omega arith)
    ∙ next s (i + 3) (i + 4) (omega arith) (ap (λ (l : List ℕ). get_or l 3 0) e) (omega arith)
    ∙ next s (i + 4) (i + 5) (omega arith) (ap (λ (l : List ℕ). get_or l 4 0) e) (omega arith)
    ∙ next s (i + 5) (i + 6) (omega arith) (ap (λ (l : List ℕ). get_or l 5 0) e) (omega arith)
    ∙ next s (i + 6) (i + 7) (omega arith) (ap (λ (l : List ℕ). get_or l 6 0) e) (omega arith)
    ∙ next s (i + 7) (i + 8) (omega arith) (ap (λ (l : List ℕ). get_or l 7 0) e) (omega arith)

-- ---- four bytes

abbrev pub four : List ℕ → ℕ → List ℕ
four s i = get_or s i 0 ∷ get_or s (i + 1) 0 ∷ get_or s (i + 2) 0 ∷ get_or s (i + 3) 0 ∷ []

pub four_blanks_at : (s : List ℕ) (i : ℕ) → i + 4 ≤ length s → four s i ≡ 32 ∷ 32 ∷ 32 ∷ 32 ∷ [] → number_of (drop i s) ≡ number_of (drop (i + 4) s)
four_blanks_at s i h e =
    next s i (i + 1) (omega arith) (ap (λ (l : List ℕ). get_or l 0 0) e) refl
    ∙ next s (i + 1) (i + 2) (omega arith) (ap (λ (l : List ℕ). get_or l 1 0) e) (omega arith)
    ∙ next s (i + 2) (i + 3) (omega arith) (ap (λ (l : List ℕ). get_or l 2 0) e) (omega arith)
    ∙ next s (i + 3) (i + 4) (omega arith) (ap (λ (l : List ℕ). get_or l 3 0) e) (omega arith)

pub four_below : (s : List ℕ) (i : ℕ) → ((j : ℕ) → get_or s j 0 < 256) → (k : ℕ) → get_or (four s i) k 0 < 256
four_below s i f zero = f i
four_below s i f (suc zero) = f (i + 1)
four_below s i f (suc (suc zero)) = f (i + 2)
four_below s i f (suc (suc (suc zero))) = f (i + 3)
four_below s i f (suc (suc (suc (suc k)))) = lit< tt

pub four_rest : (s : List ℕ) (i : ℕ) → i + 4 ≤ length s → drop i s ≡ four s i ++ drop (i + 4) s
four_rest s i h =
    rw (step s i (i + 1) refl (omega arith), step s (i + 1) (i + 2) (omega arith) (omega arith), step s (i + 2) (i + 3) (omega arith) (omega arith), step s (i + 3) (i + 4) (omega arith) (omega arith))
    refl

-- the last two bytes
pub last_two : (s : List ℕ) (i : ℕ) → i + 2 ≡ length s → get_or s i 0 ∷ get_or s (i + 1) 0 ∷ [] ≡ drop i s
last_two s i h =
    let end : drop (i + 1 + 1) s ≡ [] = drop_all (i + 1 + 1) s (omega arith) in
    rw (from s i (omega arith), from s (i + 1) (omega arith), end) refl

-- the last four
pub last_four : (s : List ℕ) (i : ℕ) → i + 4 ≡ length s → four s i ≡ drop i s
last_four s i h =
    let e : i + 2 + 1 ≡ i + 3 = omega arith in
    let two : get_or s (i + 2) 0 ∷ get_or s (i + 3) 0 ∷ [] ≡ drop (i + 2) s = rw e at (last_two s (i + 2) (omega arith)) in
    let f : i + 1 + 1 ≡ i + 2 = omega arith in
    let three : drop (i + 1) s ≡ get_or s (i + 1) 0 ∷ drop (i + 2) s = rw f at (from s (i + 1) (omega arith)) in
    rw (from s i (omega arith), three, ← two) refl

-- each of eight bytes is below 256, as those of the list are
pub eight_below : (s : List ℕ) (i : ℕ) → ((j : ℕ) → get_or s j 0 < 256) → (k : ℕ) → get_or (eight s i) k 0 < 256
eight_below s i f zero = f i
eight_below s i f (suc zero) = f (i + 1)
eight_below s i f (suc (suc zero)) = f (i + 2)
eight_below s i f (suc (suc (suc zero))) = f (i + 3)
eight_below s i f (suc (suc (suc (suc zero)))) = f (i + 4)
eight_below s i f (suc (suc (suc (suc (suc zero))))) = f (i + 5)
eight_below s i f (suc (suc (suc (suc (suc (suc zero)))))) = f (i + 6)
eight_below s i f (suc (suc (suc (suc (suc (suc (suc zero))))))) = f (i + 7)
eight_below s i f (suc (suc (suc (suc (suc (suc (suc (suc k)))))))) = lit< tt

-- ---- a number that its first columns begin, and what goes on

some_is : (n v : ℕ) → ◌≡◌ {A = Option ℕ} (Some n) (Some v) → n ≡ v
some_is n v e = cc

pub begun : (xs ys : List ℕ) (v : ℕ) → number_of xs ≡ Some v → 0 < v → number_of (xs ++ ys) ≡ number_behind v ys
unfolding number_in
begun xs ys v e h = ap number_in (field_from-append F.Blank xs ys) ∙ go (field_from F.Blank xs) e
  where
    go : (f : Field) → number_in f ≡ Some v → number_in (field_from f ys) ≡ number_behind v ys
    go F.Blank e = absurd cc
    go F.Zero e = let z = some_is 0 v e in absurd (omega arith)
    go (F.Number n) e = ap (λ (k : ℕ). number_behind k ys) (some_is n v e)
    go F.Bad e = absurd cc

pub goes_on : (v : ℕ) (xs ys : List ℕ) (n : ℕ) → number_behind v xs ≡ Some n → number_behind v (xs ++ ys) ≡ number_behind n ys
unfolding number_in field_from field_step
goes_on v [] ys n e = ap (λ (k : ℕ). number_behind k ys) (some_is v n e)
goes_on v (b ∷ xs) ys n e = go (is_digit b) (leb (v * 10 + (b - 48)) max_number) refl refl (goes_on (v * 10 + (b - 48)) xs ys n)
  where
    go : (x y : Bool) → is_digit b ≡ x → leb (v * 10 + (b - 48)) max_number ≡ y → (number_behind (v * 10 + (b - 48)) xs ≡ Some n → number_behind (v * 10 + (b - 48)) (xs ++ ys) ≡ number_behind n ys) → number_behind v (b ∷ (xs ++ ys)) ≡ number_behind n ys
    go true true d m rest = digit_more v b (xs ++ ys) d (leb-true (v * 10 + (b - 48)) max_number m) ∙ rest (sym (digit_more v b xs d (leb-true (v * 10 + (b - 48)) max_number m)) ∙ e)
    go true false d m rest = let none = digit_over v b xs (leb-false (v * 10 + (b - 48)) max_number m) in absurd cc
    go false y d m rest = let none = other_more v b xs d in absurd cc

-- ---- places where nothing is left of a number

pub places_zero : (w : ℕ) → places w 0 ≡ replicate {A = ℕ} w 32
unfolding places
places_zero zero = refl
places_zero (suc w) = ap (λ (l : List ℕ). l ++ (32 ∷ [])) (places_zero w) ∙ sym (blank-end w)
  where
    blank-end : (w : ℕ) → replicate {A = ℕ} (suc w) 32 ≡ replicate {A = ℕ} w 32 ++ (32 ∷ [])
    blank-end zero = refl
    blank-end (suc w) = ap (λ (l : List ℕ). 32 ∷ l) (blank-end w)

-- ---- one digit behind three blanks: reading goes on behind a blank as if none had been there

peel : (q r b x : ℕ) → b < 256 → x < 256 → q * 256 + b ≡ r * 256 + x → (q ≡ r) × (b ≡ x)
peel q r b x f g e = (omega arith, omega arith)

digit_last : (k : ℕ) → k < 10 → number_of ((48 + k) ∷ []) ≡ Some k
digit_last k h =
    let is : is_digit (48 + k) ≡ true = rw (le-leb 48 (48 + k) (omega arith), le-leb (48 + k) 57 (omega arith)) refl in
    let e : 48 + k - 48 ≡ k = omega arith in
    digit_alone (48 + k) is ∙ ap Some e

pub one_of_four : (a b c d k : ℕ) → a < 256 → b < 256 → c < 256 → d < 256 → k < 10 → ((a * 256 + b) * 256 + c) * 256 + d ≡ 0x2020_2030 + k → number_of (a ∷ b ∷ c ∷ d ∷ []) ≡ Some k
unfolding field_from field_step first_byte
one_of_four a b c d k A B C D K e =
    let p₃ = peel ((a * 256 + b) * 256 + c) 0x202020 d (48 + k) D (omega arith) (omega arith) in
    let p₂ = peel (a * 256 + b) 0x2020 c 32 C (omega arith) (omega (arith, p₃.0)) in
    let p₁ = peel a 32 b 32 B (omega arith) (omega (arith, p₂.0)) in
    rw (p₁.0, p₁.1, p₂.1, p₃.1) (digit_last k K)
