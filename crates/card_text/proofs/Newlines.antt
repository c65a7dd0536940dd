-- Lines cut at newlines: columns have none, so a text of lines is read line by line. Assumes nothing.
use Prim.Native.Nat.{ℕ, zero, suc, ◌+◌, ◌/◌, ◌%◌}
use mathlib.Core.Path.{◌≡◌, refl}
use mathlib.Core.Bool.{Bool, true, false}
use mathlib.Core.List.{List, [], ◌∷◌, ◌++◌, append-nil}
use native.Mathlib.Omega.{arith}
use lib.Dec.{eqb}
use lib.Seq.{append_snoc}
use borrow.Author.Tests.{ne_eqb}
use Rattle.card_text.specs.Columns.{place_byte, places, column}
use Rattle.card_text.specs.Text.{lines_read}

-- No byte is a newline.
abbrev pub Unbroken : List ℕ → Type 0
Unbroken [] = Unit {0}
Unbroken (b ∷ bs) = (eqb b 10 ≡ false) × Unbroken bs

pub unbroken-both : (a b : List ℕ) → Unbroken a → Unbroken b → Unbroken (a ++ b)
unbroken-both [] b f g = g
unbroken-both (x ∷ a) b f g = (f.0, unbroken-both a b f.1 g)

-- ---- columns

digit-no-newline : (d : ℕ) → eqb (48 + d) 10 ≡ false
digit-no-newline d = ne_eqb (48 + d) 10 (λ e. omega arith)

place-no-newline : (n : ℕ) → eqb (place_byte n) 10 ≡ false
place-no-newline n = go (eqb n 0) refl
  where
    go : (x : Bool) → eqb n 0 ≡ x → eqb (place_byte n) 10 ≡ false
    go true e = rw e refl
    go false e = rw e (digit-no-newline (n % 10))

unbroken-places : (w n : ℕ) → Unbroken (places w n)
unfolding places
unbroken-places zero n = tt
unbroken-places (suc w) n = unbroken-both (places w (n / 10)) (place_byte n ∷ []) (unbroken-places w (n / 10)) (place-no-newline n, tt)

pub unbroken-column : (w n : ℕ) → Unbroken (column w n)
unfolding column
unbroken-column zero n = tt
unbroken-column (suc w) n = unbroken-both (places w (n / 10)) _ (unbroken-places w (n / 10)) (digit-no-newline (n % 10), tt)

-- ---- a line and its newline

-- it is read, behind what stands before it, and what is behind the newline is a text again
pub line-ended :
    (R : Type 0) (read : List ℕ → R) (unended : R) (line bs rest : List ℕ) → Unbroken bs
    → lines_read read unended line (bs ++ (10 ∷ rest)) ≡ read (line ++ bs) ∷ lines_read read unended [] rest
unfolding lines_read
line-ended R read unended line [] rest f = rw (append-nil line) refl
line-ended R read unended line (b ∷ bs) rest f = rw (f.0, line-ended R read unended (line ++ (b ∷ [])) bs rest f.1, append_snoc) refl
