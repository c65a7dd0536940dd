-- Five numbers in five columns, for any widths: what is written is read, and what is read is what is written. Assumes nothing.
use Rattle.std.specs.Prelude.{Option, None, Some}
use Prim.Native.Nat.{ℕ, suc, ◌+◌, ◌^◌, ◌≤◌, ◌<◌}
use mathlib.Core.Path.{◌≡◌, refl, sym, ap, subst, ◌∙◌}
use mathlib.Core.Bool.{Bool, true, false, cond}
use mathlib.Core.List.{List, [], ◌++◌, append_assoc, append-nil}
use native.Mathlib.Nat.{zero-add}
use native.Mathlib.Omega.{arith}
use borrow.Author.Tests.{eqb-true, eq-eqb}
use lib.Dec.{eqb}
use lib.ListN.{length, take, length-append}
use lib.Seq.{take_at, drop_at}
use Rattle.std.specs.List.{between}
use Rattle.std.proofs.lemmas.Slice.{between_is}
use Rattle.card_text.specs.Columns.{column, max_number, number_of}
use Rattle.card_text.specs.FiveColumns.{five_columns, five_numbers, five_read}
use Rattle.card_text.proofs.Parts.{between-whole, between-join}
use Rattle.card_text.proofs.Text.{length-column}
use Rattle.card_text.proofs.Numbers.{written-is-read, part-written}

-- ---- one column

-- The number has room in so many columns, and is of 64 bits.
abbrev pub RoomIn : ℕ → ℕ → Type 0
RoomIn w n = (n < 10 ^ w) × (n ≤ max_number)

-- the part of that width behind xs
between-at : (line xs ys zs : List ℕ) (f w : ℕ) → line ≡ xs ++ (ys ++ zs) → length xs ≡ f → length ys ≡ w → between f (f + w) line ≡ ys
between-at line xs ys zs f w e g h =
    let n : length (xs ++ ys) ≡ f + w = rw (length-append xs ys, g, h) refl in
    let both : take (f + w) (xs ++ (ys ++ zs)) ≡ xs ++ ys = rw (← append_assoc xs ys zs) (take_at (xs ++ ys) zs (f + w) n) in
    rw (between_is line f (f + w), e, both) (drop_at xs ys f g)

-- a number that has room in its column is read from it, wherever the column stands in a line
column-at : (line xs zs : List ℕ) (f w n : ℕ) → line ≡ xs ++ (column (suc w) n ++ zs) → length xs ≡ f → RoomIn (suc w) n → number_of (between f (f + suc w) line) ≡ Some n
column-at line xs zs f w n e g h = rw (between-at line xs (column (suc w) n) zs f (suc w) e g (length-column (suc w) n)) (written-is-read w n h.0 h.1)

-- and from the start of one
column-first : (line zs : List ℕ) (w n : ℕ) → line ≡ column (suc w) n ++ zs → RoomIn (suc w) n → number_of (between 0 (suc w) line) ≡ Some n
column-first line zs w n e h = subst (λ k. number_of (between 0 k line) ≡ Some n) (zero-add (suc w)) (column-at line [] zs 0 w n e refl h)

-- ---- what is written is read

module _ (v w x y z a b c d e : ℕ) where
  abbrev whole : List ℕ
  whole = five_columns v w x y z a b c d e

  long : length whole ≡ v + w + x + y + z
  long = simp (length-append, length-column) refl

  -- the columns before each, and those behind it
  abbrev two : List ℕ
  two = column v a ++ column w b

  abbrev three : List ℕ
  three = two ++ column x c

  abbrev four : List ℕ
  four = three ++ column y d

  fifth : whole ≡ four ++ (column z e ++ [])
  fifth = ap (λ t. four ++ t) (sym (append-nil (column z e)))

  fourth : whole ≡ three ++ (column y d ++ column z e)
  fourth = append_assoc three (column y d) (column z e)

  third : whole ≡ two ++ (column x c ++ (column y d ++ column z e))
  third = fourth ∙ append_assoc two (column x c) (column y d ++ column z e)

  second : whole ≡ column v a ++ (column w b ++ (column x c ++ (column y d ++ column z e)))
  second = third ∙ append_assoc (column v a) (column w b) (column x c ++ (column y d ++ column z e))

-- five numbers that are read make what they make
five-say : (R : Type 0) (make : ℕ → ℕ → ℕ → ℕ → ℕ → R) (a b c d e : ℕ) (p q r s t : Option ℕ) → p ≡ Some a → q ≡ Some b → r ≡ Some c → s ≡ Some d → t ≡ Some e
    → five_numbers make p q r s t ≡ Some (make a b c d e)
five-say R make a b c d e p q r s t h₁ h₂ h₃ h₄ h₅ = rw (h₁, h₂, h₃, h₄, h₅) refl

module _ (R : Type 0) (make : ℕ → ℕ → ℕ → ℕ → ℕ → R) (v w x y z a b c d e : ℕ) where
  abbrev l : List ℕ
  l = five_columns (suc v) (suc w) (suc x) (suc y) (suc z) a b c d e

  read-back : RoomIn (suc v) a → RoomIn (suc w) b → RoomIn (suc x) c → RoomIn (suc y) d → RoomIn (suc z) e
      → five_read make (suc v) (suc w) (suc x) (suc y) (suc z) l ≡ Some (make a b c d e)
  read-back ha hb hc hd he =
      rw (eq-eqb (length l) (suc v + suc w + suc x + suc y + suc z) (long (suc v) (suc w) (suc x) (suc y) (suc z) a b c d e))
      (five-say R make a b c d e _ _ _ _ _
      (column-first l _ v a (second (suc v) (suc w) (suc x) (suc y) (suc z) a b c d e) ha)
      (column-at l (column (suc v) a) _ (suc v) w b (second (suc v) (suc w) (suc x) (suc y) (suc z) a b c d e) (length-column (suc v) a) hb)
      (column-at l (two (suc v) (suc w) (suc x) (suc y) (suc z) a b c d e) _ (suc v + suc w) x c
      (third (suc v) (suc w) (suc x) (suc y) (suc z) a b c d e) (simp (length-append, length-column) refl) hc)
      (column-at l (three (suc v) (suc w) (suc x) (suc y) (suc z) a b c d e) _ (suc v + suc w + suc x) y d
      (fourth (suc v) (suc w) (suc x) (suc y) (suc z) a b c d e) (simp (length-append, length-column) refl) hd)
      (column-at l (four (suc v) (suc w) (suc x) (suc y) (suc z) a b c d e) [] (suc v + suc w + suc x + suc y) z e
      (fifth (suc v) (suc w) (suc x) (suc y) (suc z) a b c d e) (simp (length-append, length-column) refl) he))

pub five-written-is-read :
    (R : Type 0) (make : ℕ → ℕ → ℕ → ℕ → ℕ → R) (v w x y z a b c d e : ℕ)
    → RoomIn (suc v) a → RoomIn (suc w) b → RoomIn (suc x) c → RoomIn (suc y) d → RoomIn (suc z) e
    → five_read make (suc v) (suc w) (suc x) (suc y) (suc z) (five_columns (suc v) (suc w) (suc x) (suc y) (suc z) a b c d e) ≡ Some (make a b c d e)
five-written-is-read R make v w x y z a b c d e ha hb hc hd he = read-back R make v w x y z a b c d e ha hb hc hd he

-- ---- what is read is what is written

-- a line that is read has its length
of_length : (R : Type 0) (t : Bool) (found : Option R) (r : R) → cond t found None ≡ Some r → (t ≡ true) × (found ≡ Some r)
of_length R true found r e = (refl, e)
of_length R false found r e = absurd cc

-- Five numbers, each of which is read, and what they make.
record Say (R : Type 0) (make : ℕ → ℕ → ℕ → ℕ → ℕ → R) (p q s t u : Option ℕ) (r : R) : Type 0 where
  pub a : ℕ
  pub b : ℕ
  pub c : ℕ
  pub d : ℕ
  pub e : ℕ
  pub made : make a b c d e ≡ r
  pub first : p ≡ Some a
  pub second : q ≡ Some b
  pub third : s ≡ Some c
  pub fourth : t ≡ Some d
  pub fifth : u ≡ Some e

say : (R : Type 0) (make : ℕ → ℕ → ℕ → ℕ → ℕ → R) (p q s t u : Option ℕ) (r : R) → five_numbers make p q s t u ≡ Some r → Say R make p q s t u r
say R make (Some a) (Some b) (Some c) (Some d) (Some e) r h =
    record { a = a; b = b; c = c; d = d; e = e; made = cc; first = refl; second = refl; third = refl; fourth = refl; fifth = refl }
say R make None q s t u r h = absurd cc
say R make (Some a) None s t u r h = absurd cc
say R make (Some a) (Some b) None t u r h = absurd cc
say R make (Some a) (Some b) (Some c) None u r h = absurd cc
say R make (Some a) (Some b) (Some c) (Some d) None r h = absurd cc

-- the first part is its number's column
first-written : (v n : ℕ) (line : List ℕ) → v ≤ length line → number_of (between 0 v line) ≡ Some n → column v n ≡ between 0 v line
first-written v n line h e = subst (λ k. number_of (between 0 k line) ≡ Some n → column v n ≡ between 0 k line) (zero-add v) (λ g. part-written 0 v n line (omega arith) g) e

-- the parts make the line
parts-joined :
    (v w x y z : ℕ) (line : List ℕ) → length line ≡ v + w + x + y + z
    → between 0 v line ++ between v (v + w) line ++ between (v + w) (v + w + x) line ++ between (v + w + x) (v + w + x + y) line ++ between (v + w + x + y) (v + w + x + y + z) line ≡ line
parts-joined v w x y z line n =
    rw (
      between-join 0 v (v + w) line (omega arith) (omega arith) (omega arith),
      between-join 0 (v + w) (v + w + x) line (omega arith) (omega arith) (omega arith),
      between-join 0 (v + w + x) (v + w + x + y) line (omega arith) (omega arith) (omega arith),
      between-join 0 (v + w + x + y) (v + w + x + y + z) line (omega arith) (omega arith) (omega arith),
    )
    (rw n at (between-whole line))

-- A line that is read is what some five numbers are written as, and they make what was read.
pub record Written {R : Type 0} (make : ℕ → ℕ → ℕ → ℕ → ℕ → R) (v w x y z : ℕ) (line : List ℕ) (r : R) : Type 0 where
  pub a : ℕ
  pub b : ℕ
  pub c : ℕ
  pub d : ℕ
  pub e : ℕ
  pub made : make a b c d e ≡ r
  pub columns : five_columns v w x y z a b c d e ≡ line

pub five-read-is-written :
    (R : Type 0) (make : ℕ → ℕ → ℕ → ℕ → ℕ → R) (v w x y z : ℕ) (line : List ℕ) (r : R)
    → five_read make v w x y z line ≡ Some r → Written make v w x y z line r
five-read-is-written R make v w x y z line r h =
    let found = of_length R (eqb (length line) (v + w + x + y + z)) _ r h in
    let n : length line ≡ v + w + x + y + z = eqb-true (length line) (v + w + x + y + z) found.0 in
    let k : Say R make (number_of (between 0 v line)) (number_of (between v (v + w) line)) (number_of (between (v + w) (v + w + x) line)) (number_of (between (v + w + x) (v + w + x + y) line)) (number_of (between (v + w + x + y) (v + w + x + y + z) line)) r = say R make _ _ _ _ _ r found.1 in
    record {
      a = k.a;
      b = k.b;
      c = k.c;
      d = k.d;
      e = k.e;
      made = k.made;
      columns =
          rw (
            first-written v k.a line (omega (arith, n)) k.first,
            part-written v w k.b line (omega (arith, n)) k.second,
            part-written (v + w) x k.c line (omega (arith, n)) k.third,
            part-written (v + w + x) y k.d line (omega (arith, n)) k.fourth,
            part-written (v + w + x + y) z k.e line (omega (arith, n)) k.fifth,
          )
          (parts-joined v w x y z line n);
    }
