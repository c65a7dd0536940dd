-- Five numbers in five columns side by side, as an output line and a row of the shift sheet have them: how they are written and read back,
-- for any widths; `make` says what the five numbers are. Definitions only.
use Rattle.std.specs.Prelude.{ℕ, ◌+◌, cond, List, ◌++◌, eqb, length, Option, Some, None}
use Rattle.std.specs.List.{between}
use Rattle.card_text.specs.Columns.{column, number_of}

abbrev pub five_columns : (v w x y z : ℕ) (a b c d e : ℕ) → List ℕ
five_columns v w x y z a b c d e = column v a ++ column w b ++ column x c ++ column y d ++ column z e

-- What five numbers make, where there are five.
abbrev pub five_numbers : {R : Type 0} → (ℕ → ℕ → ℕ → ℕ → ℕ → R) → Option ℕ → Option ℕ → Option ℕ → Option ℕ → Option ℕ → Option R
five_numbers make (Some a) (Some b) (Some c) (Some d) (Some e) = Some (make a b c d e)
five_numbers make a b c d e = None

-- The columns fill the line, and each has a number.
abbrev pub five_read : {R : Type 0} → (ℕ → ℕ → ℕ → ℕ → ℕ → R) → (v w x y z : ℕ) → List ℕ → Option R
five_read make v w x y z line =
    cond (eqb (length line) (v + w + x + y + z))
    (five_numbers make
    (number_of (between 0 v line))
    (number_of (between v (v + w) line))
    (number_of (between (v + w) (v + w + x) line))
    (number_of (between (v + w + x) (v + w + x + y) line))
    (number_of (between (v + w + x + y) (v + w + x + y + z) line)))
    None
