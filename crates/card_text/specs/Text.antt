-- A text of several lines, each ended by a newline, and what each line is read as. Definitions only.
use Rattle.std.specs.Prelude.{ℕ, cond, List, [], ◌∷◌, ◌++◌, eqb}

-- A line that has begun and no newline is read as `unended`.
abbrev pub rest_read : {R : Type 0} → R → List ℕ → List R
rest_read unended [] = []
rest_read unended (b ∷ line) = unended ∷ []

-- Byte by byte: `line` is what stands since the last newline, and a newline ends it.
unfoldable pub lines_read : {R : Type 0} → (List ℕ → R) → R → List ℕ → List ℕ → List R
lines_read read unended line [] = rest_read unended line
lines_read read unended line (b ∷ bs) =
    cond (eqb b 10) (read line ∷ lines_read read unended [] bs) (lines_read read unended (line ++ (b ∷ [])) bs)
