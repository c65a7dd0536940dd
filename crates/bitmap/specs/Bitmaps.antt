-- A bitmap and the number it holds: the one place that knows how a bitmap is laid out. Definitions only.
use Rattle.std.specs.Prelude.{ℕ, Bool, ◌&&◌, ltb}
use Rattle.bitmap.specs.declared.Bitmap.{Bitmap}
use Rattle.bitmap.specs.Sets.{member, ids_where}

-- How many ids a bitmap has room for.
abbrev pub capacity : ℕ
capacity = 64

-- The set as a number, id i as 2 ^ i.
abbrev pub number : Bitmap → ℕ
number b = b.bits

-- The bitmap of that size and number.
abbrev pub bitmap_of : ℕ → ℕ → Bitmap
bitmap_of size n = record { size = size; bits = n }

-- The bitmap of the ids below the size of which p says true.
abbrev pub bitmap_where : ℕ → (ℕ → Bool) → Bitmap
bitmap_where size p = bitmap_of size (ids_where p size)

-- Whether the id i is a one of the bitmap: ones at or above the size count as zeros.
abbrev pub is_one : Bitmap → ℕ → Bool
is_one b i = ltb i b.size && member (number b) i
