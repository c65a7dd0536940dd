-- What is claimed of the definitions of sets. Each claim is proved in proofs/ under the same name in small letters. Statements only.
use Rattle.std.specs.Prelude.{◌≡◌, ◌↔◌, ℕ, ◌+◌, ◌^◌, ◌≤◌, ◌<◌, Bool, true, false, ◌&&◌, ltb, Ok, length, slice_index}
use Rattle.bitmap.specs.declared.Bitmap.{Bitmap}
use Rattle.bitmap.specs.Sets.{count_where}
use Rattle.bitmap.specs.Bitmaps.{number, bitmap_of, bitmap_where, is_one}
use Rattle.bitmap.specs.Operations.{bad_size, is_off, in_range, listed, ids_below, is_superset_of}

-- ---- a set and its ones

-- Every set that is handed back has a number below 2 to its size: its ones at or above the size are zeros (rule 2.2).
abbrev pub NoOneAbove : Type 0
NoOneAbove = (size : ℕ) (p : ℕ → Bool) → number (bitmap_where size p) < 2 ^ size

-- The ones of a set that a test makes are the ids below the size that it takes.
abbrev pub OnesAreTaken : Type 0
OnesAreTaken = (size : ℕ) (p : ℕ → Bool) (i : ℕ) → is_one (bitmap_where size p) i ≡ (ltb i size && p i)

-- A set with no one at or above its size is what its ones make.
abbrev pub MadeOfOnes : Type 0
MadeOfOnes = (b : Bitmap) → number b < 2 ^ b.size → bitmap_where b.size (is_one b) ≡ b

-- The ones and the zeros of a set are as many as its size says.
abbrev pub OnesAndZeros : Type 0
OnesAndZeros = (b : Bitmap) → count_where (is_one b) b.size + count_where (is_off b) b.size ≡ b.size

-- ---- two sets, and ranges

-- `is_superset` says true exactly when every one of the other set is a one of the first (rule 2.12).
abbrev pub SupersetHasAll : Type 0
SupersetHasAll =
    (b other : Bitmap) → bad_size b.size ≡ false → bad_size other.size ≡ false
    → (is_superset_of b other ≡ Ok true) ↔ ((i : ℕ) → is_one other i ≡ true → is_one b i ≡ true)

-- A range whose end is not above its start makes the set of no id (rule 2.4).
abbrev pub NoRange : Type 0
NoRange = (size start end : ℕ) → end ≤ start → bitmap_where size (in_range start end) ≡ bitmap_of size 0

-- ---- the ids of the ones (rule 2.14)

-- The list has as many ids as the count says.
abbrev pub ListedCount : Type 0
ListedCount = (b : Bitmap) → length (ids_below (is_one b) b.size) ≡ count_where (is_one b) b.size

-- It has the ones, and no other id.
abbrev pub ListedOnes : Type 0
ListedOnes = (b : Bitmap) (i : ℕ) → listed (ids_below (is_one b) b.size) i ≡ is_one b i

-- It ascends.
abbrev pub ListedAscending : Type 0
ListedAscending =
    (b : Bitmap) (j k : ℕ) → j < k → k < length (ids_below (is_one b) b.size)
    → slice_index (ids_below (is_one b) b.size) j < slice_index (ids_below (is_one b) b.size) k
