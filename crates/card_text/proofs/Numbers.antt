-- The claims of numbers in columns: what is written is read, and what is read is what is written. Assumes nothing.
use Prim.Native.Nat.{ℕ, zero, suc, ◌+◌, ◌*◌, ◌-◌, ◌/◌, ◌%◌, ◌^◌, ◌≤◌, ◌<◌}
use mathlib.Core.Path.{◌≡◌, refl, sym, ap, ◌∙◌}
use mathlib.Core.Bool.{Bool, true, false, cond}
use mathlib.Core.List.{List, [], ◌∷◌, ◌++◌, append-nil}
use native.Mathlib.Nat.{pow-suc, pow-zero, zero-add, add-zero, add-suc, suc-add}
use native.Mathlib.Numerals.{add-one}
use native.Mathlib.Omega.{arith}
use lib.Dec.{eqb, leb}
use lib.ListN.{length, length-append}
use lib.Seq.{append_snoc}
use Rattle.std.specs.List.{between}
use Rattle.std.proofs.lemmas.List.Edits.{length-between}
use borrow.Author.Tests.{eqb-true, eqb-false, ne_eqb, leb-true, le-leb}
use Rattle.card_text.specs.Field.{Field}
use Rattle.card_text.specs.Field as F
use Rattle.std.specs.Prelude.{Some}
use Rattle.card_text.specs.Columns.{places, column, max_number, first_byte, next_byte, field_step, field_from, number_in, number_of}
use Rattle.card_text.specs.Claims.{NumberWrittenIsRead, NumberReadIsWritten}

-- ---- reading in parts

pub field_from-append : (f : Field) (xs ys : List ℕ) → field_from f (xs ++ ys) ≡ field_from (field_from f xs) ys
unfolding field_from
field_from-append f [] ys = refl
field_from-append f (x ∷ xs) ys = field_from-append (field_step f x) xs ys

field_from-snoc : (f : Field) (xs : List ℕ) (b : ℕ) → field_from f (xs ++ (b ∷ [])) ≡ field_step (field_from f xs) b
unfolding field_from
field_from-snoc f xs b = field_from-append f xs (b ∷ [])

-- ---- a digit read

first-digit : (d : ℕ) → 0 < d → d < 10 → first_byte (48 + d) ≡ F.Number d
unfolding first_byte
first-digit d l h =
    let e : 48 + d - 48 ≡ d = omega arith in
    rw (ne_eqb (48 + d) 32 (λ q. omega arith), ne_eqb (48 + d) 48 (λ q. omega arith), le-leb 48 (48 + d) (omega arith), le-leb (48 + d) 57 (omega arith), e)

next-digit : (v d : ℕ) → d < 10 → v * 10 + d ≤ max_number → next_byte v (48 + d) ≡ F.Number (v * 10 + d)
unfolding next_byte
next-digit v d h m =
    let e : 48 + d - 48 ≡ d = omega arith in
    rw (le-leb 48 (48 + d) (omega arith), le-leb (48 + d) 57 (omega arith), e, le-leb (v * 10 + d) max_number m)

-- ---- what is written is read

-- what is left of a number in the places before
before : ℕ → Field
before n = cond (eqb n 0) F.Blank (F.Number n)

-- the last digit of a number
last-digit : (n : ℕ) → 0 < n → n ≤ max_number → field_step (before (n / 10)) (48 + n % 10) ≡ F.Number n
unfolding before field_step
last-digit n l m = go (eqb (n / 10) 0) refl
  where
    go : (x : Bool) → eqb (n / 10) 0 ≡ x → field_step (before (n / 10)) (48 + n % 10) ≡ F.Number n
    go true e =
        let z = eqb-true (n / 10) 0 e in
        let s : n % 10 ≡ n = omega arith in
        rw (e, s) (first-digit n l (omega arith))
    go false e =
        let s : n / 10 * 10 + n % 10 ≡ n = omega arith in
        rw e (next-digit (n / 10) (n % 10) (omega arith) (omega arith) ∙ rw s)

tens-below : (w n : ℕ) → n < 10 ^ suc w → n / 10 < 10 ^ w
tens-below w n h = let k = rw (pow-suc 10 w) at h in omega arith

places-read : (w n : ℕ) → n < 10 ^ w → n ≤ max_number → field_from F.Blank (places w n) ≡ before n
unfolding places before field_from field_step first_byte
places-read zero n h m = let z : n ≡ 0 = omega (arith, rw (pow-zero 10) at h) in rw z
places-read (suc w) n h m =
    rw (field_from-snoc F.Blank (places w (n / 10)), places-read w (n / 10) (tens-below w n h) (omega arith))
    (go (eqb n 0) refl)
  where
    go : (x : Bool) → eqb n 0 ≡ x → field_step (before (n / 10)) (cond (eqb n 0) 32 (48 + n % 10)) ≡ before n
    go true e = rw (eqb-true n 0 e)
    go false e = let ne = eqb-false n 0 e in rw e (last-digit n (omega arith) m)

pub written-is-read : NumberWrittenIsRead
unfolding column field_step first_byte before number_in
written-is-read w n h m =
    rw (field_from-snoc F.Blank (places w (n / 10)), places-read w (n / 10) (tens-below w n h) (omega arith))
    (go (eqb n 0) refl)
  where
    go : (x : Bool) → eqb n 0 ≡ x → number_in (field_step (before (n / 10)) (48 + n % 10)) ≡ Some n
    go true e = rw (eqb-true n 0 e) refl
    go false e = let ne = eqb-false n 0 e in rw (last-digit n (omega arith) m) refl

-- ---- what is read is what is written

places-next : (w v d : ℕ) → d < 10 → 0 < v * 10 + d → places (suc w) (v * 10 + d) ≡ places w v ++ ((48 + d) ∷ [])
unfolding places
places-next w v d h l =
    let t : (v * 10 + d) / 10 ≡ v = omega arith in
    let r : (v * 10 + d) % 10 ≡ d = omega arith in
    rw (ne_eqb (v * 10 + d) 0 (λ q. omega arith), t, r)

places-column : (w n : ℕ) → 0 < n → places w n ≡ column w n
unfolding places column
places-column zero n l = refl
places-column (suc w) n l = rw (ne_eqb n 0 (λ q. omega arith))

length-snoc : (xs : List ℕ) (b : ℕ) → length (xs ++ (b ∷ [])) ≡ suc (length xs)
length-snoc xs b = simp (length-append, add-one)

-- what the bytes read so far are
Reads : Field → List ℕ → Type 0
Reads F.Blank pre = pre ≡ places (length pre) 0
Reads F.Zero pre = pre ≡ column (length pre) 0
Reads (F.Number v) pre = (pre ≡ places (length pre) v) × (0 < v) × (v ≤ max_number)
Reads F.Bad pre = Unit

-- one byte more
reads_first : (b : ℕ) (pre : List ℕ) → Reads F.Blank pre → Reads (first_byte b) (pre ++ (b ∷ []))
unfolding Reads first_byte places column
reads_first b pre r = go (eqb b 32) (eqb b 48) (leb 48 b) (leb b 57) refl refl refl refl
  where
    go : (x y u t : Bool) → eqb b 32 ≡ x → eqb b 48 ≡ y → leb 48 b ≡ u → leb b 57 ≡ t → Reads (first_byte b) (pre ++ (b ∷ []))
    go true y u t e₁ e₂ e₃ e₄ = rw (e₁, length-snoc pre b, eqb-true b 32 e₁) (ap (λ (l : List ℕ). l ++ (32 ∷ [])) r)
    go false true u t e₁ e₂ e₃ e₄ = rw (e₁, e₂, length-snoc pre b, eqb-true b 48 e₂) (ap (λ (l : List ℕ). l ++ (48 ∷ [])) r)
    go false false true true e₁ e₂ e₃ e₄ =
        let low = leb-true 48 b e₃ in
        let high = leb-true b 57 e₄ in
        let ne = eqb-false b 48 e₂ in
        let s : 48 + (b - 48) ≡ b = omega arith in
        let next : places (suc (length pre)) (b - 48) ≡ places (length pre) 0 ++ (b ∷ []) = rw (s, zero-add) at (places-next (length pre) 0 (b - 48) (omega arith) (omega arith)) in
        rw (e₁, e₂, e₃, e₄, length-snoc pre b)
        (ap (λ (l : List ℕ). l ++ (b ∷ [])) r ∙ sym next, omega arith, omega arith)
    go false false true false e₁ e₂ e₃ e₄ = rw (e₁, e₂, e₃, e₄) tt
    go false false false t e₁ e₂ e₃ e₄ = rw (e₁, e₂, e₃) tt

reads-next : (v b : ℕ) (pre : List ℕ) → Reads (F.Number v) pre → Reads (next_byte v b) (pre ++ (b ∷ []))
unfolding Reads next_byte
reads-next v b pre r = go (leb 48 b) (leb b 57) (leb (v * 10 + (b - 48)) max_number) refl refl refl
  where
    go : (u t m : Bool) → leb 48 b ≡ u → leb b 57 ≡ t → leb (v * 10 + (b - 48)) max_number ≡ m → Reads (next_byte v b) (pre ++ (b ∷ []))
    go true true true e₁ e₂ e₃ =
        let low = leb-true 48 b e₁ in
        let high = leb-true b 57 e₂ in
        let s : 48 + (b - 48) ≡ b = omega arith in
        let pos : 0 < v = r.1 in
        let next : places (suc (length pre)) (v * 10 + (b - 48)) ≡ places (length pre) v ++ (b ∷ []) = rw s at (places-next (length pre) v (b - 48) (omega arith) (omega arith)) in
        rw (e₁, e₂, e₃, length-snoc pre b)
        (ap (λ (l : List ℕ). l ++ (b ∷ [])) r.0 ∙ sym next, omega arith, leb-true (v * 10 + (b - 48)) max_number e₃)
    go true true false e₁ e₂ e₃ = rw (e₁, e₂, e₃) tt
    go true false m e₁ e₂ e₃ = rw (e₁, e₂) tt
    go false t m e₁ e₂ e₃ = rw e₁ tt

reads-step : (f : Field) (b : ℕ) (pre : List ℕ) → Reads f pre → Reads (field_step f b) (pre ++ (b ∷ []))
unfolding Reads field_step
reads-step F.Blank b pre r = reads_first b pre r
reads-step F.Zero b pre r = tt
reads-step (F.Number v) b pre r = reads-next v b pre r
reads-step F.Bad b pre r = tt

reads-from : (bs : List ℕ) (f : Field) (pre : List ℕ) → Reads f pre → Reads (field_from f bs) (pre ++ bs)
unfolding field_from
reads-from [] f pre r = rw append-nil r
reads-from (b ∷ bs) f pre r = rw append_snoc at (reads-from bs (field_step f b) (pre ++ (b ∷ [])) (reads-step f b pre r))

reads-number : (f : Field) (bs : List ℕ) (n : ℕ) → Reads f bs → number_in f ≡ Some n → (column (length bs) n ≡ bs) × (n ≤ max_number)
unfolding Reads number_in
reads-number F.Blank bs n r e = absurd cc
reads-number F.Zero bs n r e = let z : 0 ≡ n = cc in rw (← z) (sym r, omega arith)
reads-number (F.Number v) bs n r e = let z : v ≡ n = cc in rw (← z) (sym (r.0 ∙ places-column (length bs) v r.1), r.2)
reads-number F.Bad bs n r e = absurd cc

pub read-is-written : NumberReadIsWritten
unfolding Reads places
read-is-written bs n e = reads-number (field_from F.Blank bs) bs n (reads-from bs F.Blank [] refl) e

-- ---- a number that is read has no more digits than bytes

-- the number read so far
value_in : Field → ℕ
value_in (F.Number v) = v
value_in f = 0

first_below : (b k : ℕ) → 0 < k → value_in (first_byte b) < k * 10
unfolding first_byte value_in
first_below b k l = go (eqb b 32) (eqb b 48) (leb 48 b) (leb b 57) refl
  where
    go : (x y u t : Bool) → leb b 57 ≡ t → value_in (cond x F.Blank (cond y F.Zero (cond (cond u t false) (F.Number (b - 48)) F.Bad))) < k * 10
    go true y u t e = omega arith
    go false true u t e = omega arith
    go false false true true e = let high = leb-true b 57 e in omega arith
    go false false true false e = omega arith
    go false false false t e = omega arith

next-below : (v b k : ℕ) → v < k → value_in (next_byte v b) < k * 10
unfolding next_byte value_in
next-below v b k l = go (leb 48 b) (leb b 57) (leb (v * 10 + (b - 48)) max_number) refl
  where
    go : (u t m : Bool) → leb b 57 ≡ t → value_in (cond (cond u t false) (cond m (F.Number (v * 10 + (b - 48))) F.Bad) F.Bad) < k * 10
    go true true true e = let high = leb-true b 57 e in omega arith
    go true true false e = omega arith
    go true false m e = omega arith
    go false t m e = omega arith

step-below : (f : Field) (b k : ℕ) → value_in f < k → value_in (field_step f b) < k * 10
unfolding field_step value_in
step-below F.Blank b k l = first_below b k (omega arith)
step-below F.Zero b k l = omega arith
step-below (F.Number v) b k l = next-below v b k l
step-below F.Bad b k l = omega arith

from-below : (bs : List ℕ) (f : Field) (k : ℕ) → value_in f < 10 ^ k → value_in (field_from f bs) < 10 ^ (k + length bs)
unfolding field_from
from-below [] f k l = rw add-zero l
from-below (b ∷ bs) f k l =
    rw (add-suc k (length bs), ← suc-add k (length bs))
    (from-below bs (field_step f b) (suc k) (rw (pow-suc 10 k) (step-below f b (10 ^ k) l)))

pub number-below : (bs : List ℕ) (n : ℕ) → number_of bs ≡ Some n → n < 10 ^ length bs
unfolding number_in value_in
number-below bs n e = go (field_from F.Blank bs) (rw zero-add at (from-below bs F.Blank 0 (omega arith))) e
  where
    go : (f : Field) → value_in f < 10 ^ length bs → number_in f ≡ Some n → n < 10 ^ length bs
    go F.Blank l q = absurd cc
    go F.Zero l q = let z : 0 ≡ n = cc in rw (← z) l
    go (F.Number v) l q = let z : v ≡ n = cc in rw (← z) l
    go F.Bad l q = absurd cc

-- ---- a part of a line that is read as a number

module _ (f w n : ℕ) (line : List ℕ) (h : f + w ≤ length line) (e : number_of (between f (f + w) line) ≡ Some n) where
  length_part : length (between f (f + w) line) ≡ w
  length_part = length-between line f (f + w) h ∙ omega arith

  -- it is that number's column
  pub part-written : column w n ≡ between f (f + w) line
  part-written = rw length_part at (read-is-written (between f (f + w) line) n e).0

  -- and has no more digits than columns
  pub part-below : n < 10 ^ w
  part-below = rw length_part at (number-below (between f (f + w) line) n e)
