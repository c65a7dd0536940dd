-- The number that each call of this crate answers (rules 10.10 to 10.13): 0 where it answers, else by the tests in the order of rule 10.30.
-- The numbers stand here as such, by no word of `BitmapError`'s cases. Definitions only.
use Rattle.std.specs.Prelude.{ℕ, Result, Ok, Err, cond, ◌||◌, List}
use Rattle.bitmap.specs.declared.Bitmap.{Bitmap}
use Rattle.bitmap.specs.declared.BitmapError.{BitmapError}
use Rattle.bitmap.specs.Operations.{bitmap_refusal_number, bad_size, bad_id, sizes_differ, short, bad_range, outside}

-- 0 for an answer, else the refusal's number.
abbrev pub answer_number : {A : Type 0} → Result A BitmapError → ℕ
answer_number (Ok x) = 0
answer_number (Err e) = bitmap_refusal_number e

-- `new`, and `size`, `count`, `flip` and `clear` of a set of that size.
abbrev pub size_refusal : ℕ → ℕ
size_refusal size = cond (bad_size size) 12 0

-- `set` and `get`.
abbrev pub id_refusal : Bitmap → ℕ → ℕ
id_refusal b id = cond (bad_size b.size) 12 (cond (bad_id b.size id) 10 0)

-- `union`.
abbrev pub union_refusal : Bitmap → Bitmap → ℕ
union_refusal b other = cond (bad_size b.size || bad_size other.size) 12 (cond (sizes_differ b other) 11 0)

-- `is_superset`: sizes may differ.
abbrev pub superset_refusal : Bitmap → Bitmap → ℕ
superset_refusal b other = cond (bad_size b.size || bad_size other.size) 12 0

-- `from_range`.
abbrev pub range_refusal : ℕ → ℕ → ℕ → ℕ
range_refusal size start end = cond (bad_size size) 12 (cond (bad_range size start end) 10 0)

-- `from_ids`.
abbrev pub list_refusal : ℕ → List ℕ → ℕ
list_refusal size ids = cond (bad_size size) 12 (cond (outside size ids) 10 0)

-- `ones`.
abbrev pub ones_refusal : Bitmap → List ℕ → ℕ
ones_refusal b bytes = cond (bad_size b.size) 12 (cond (short b bytes) 13 0)
