-- A decimal number in fixed columns: how it is written, and how bytes are read. A byte is its ASCII number: 32 a blank, 48 to 57 the
-- digits. Definitions only.
use Rattle.std.specs.Prelude.{ℕ, zero, suc, ◌+◌, ◌*◌, ◌-◌, ◌/◌, ◌%◌, Bool, false, cond, List, [], ◌∷◌, ◌++◌, eqb, leb, Option, Some, None}
use Rattle.std.specs.List.{fold}
use Rattle.card_text.specs.Field.{Field}
use Rattle.card_text.specs.Field as F

-- ---- writing

abbrev pub digit : ℕ → ℕ
digit d = 48 + d

-- A place before the last: a blank where nothing is left of the number.
abbrev pub place_byte : ℕ → ℕ
place_byte n = cond (eqb n 0) 32 (digit (n % 10))

-- The places before the last.
unfoldable pub places : ℕ → ℕ → List ℕ
places zero n = []
places (suc w) n = places w (n / 10) ++ (place_byte n ∷ [])

-- n in w columns, right-justified, with no leading zeros. Of a number with more than w digits, the last w.
unfoldable pub column : ℕ → ℕ → List ℕ
column zero n = []
column (suc w) n = places w (n / 10) ++ (digit (n % 10) ∷ [])

-- ---- reading

-- The largest number: 2 to the 64 less 1.
abbrev pub max_number : ℕ
max_number = 18446744073709551615

abbrev pub is_digit : ℕ → Bool
is_digit b = cond (leb 48 b) (leb b 57) false

-- A byte behind blanks: a blank, the digit 0, which nothing may follow, or a number's first digit.
unfoldable pub first_byte : ℕ → Field
first_byte b = cond (eqb b 32) F.Blank (cond (eqb b 48) F.Zero (cond (is_digit b) (F.Number (b - 48)) F.Bad))

-- The number v with one digit more.
abbrev pub lengthened : ℕ → Field
lengthened v = cond (leb v max_number) (F.Number v) F.Bad

-- A byte behind the digits of v.
unfoldable pub next_byte : ℕ → ℕ → Field
next_byte v b = cond (is_digit b) (lengthened (v * 10 + (b - 48))) F.Bad

unfoldable pub field_step : Field → ℕ → Field
field_step F.Blank b = first_byte b
field_step F.Zero b = F.Bad
field_step (F.Number v) b = next_byte v b
field_step F.Bad b = F.Bad

-- Byte by byte from the left.
unfoldable pub field_from : Field → List ℕ → Field
field_from f bs = fold field_step f bs

abbrev pub field_of : List ℕ → Field
field_of bs = field_from F.Blank bs

-- The number, where there is one.
unfoldable pub number_in : Field → Option ℕ
number_in F.Blank = None
number_in F.Zero = Some 0
number_in (F.Number v) = Some v
number_in F.Bad = None

-- The number in these columns, where they hold one.
abbrev pub number_of : List ℕ → Option ℕ
number_of bs = number_in (field_of bs)

-- The number whose digits so far say v, where these bytes are its others.
abbrev pub number_behind : ℕ → List ℕ → Option ℕ
number_behind v bs = number_in (field_from (F.Number v) bs)
