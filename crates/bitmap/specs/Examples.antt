-- The calls at small sets, as one claim a topic: ids 0 and 2 are the number 5. Each is proved by computation. Statements only.
use Rattle.std.specs.Prelude.{◌≡◌, true, false, [], ◌∷◌, Ok, Err}
use Rattle.bitmap.specs.declared.BitmapError.TheVariants.{BadId, BadSize, ShortSlice}
use Rattle.bitmap.specs.Bitmaps.{bitmap_of}
use Rattle.bitmap.specs.Operations.{new_of, set_of, get_of, count_of, flip_of, union_of, is_superset_of, from_range_of, from_ids_of, ones_of, bytes_after_ones}

-- Sizes 0 and 65 are refused, 64 is not; a bad size comes before a bad id and before different sizes.
abbrev pub Sizes : Type 0
Sizes =
    (new_of 0 true ≡ Err BadSize)
    × (new_of 64 true ≡ Ok (bitmap_of 64 0xffff_ffff_ffff_ffff))
    × (new_of 65 false ≡ Err BadSize)
    × (set_of (bitmap_of 0 0) 0 true ≡ Err BadSize)
    × (union_of (bitmap_of 3 5) (bitmap_of 65 0) ≡ Err BadSize)

-- The one 3 of a set of size 3 counts as a zero.
abbrev pub OnesAbove : Type 0
OnesAbove =
    (get_of (bitmap_of 3 13) 3 ≡ Err BadId)
    × (count_of (bitmap_of 3 13) ≡ Ok 2)
    × (set_of (bitmap_of 3 13) 1 true ≡ Ok (bitmap_of 3 7))
    × (flip_of (bitmap_of 3 13) ≡ Ok (bitmap_of 3 2))
    × (is_superset_of (bitmap_of 5 5) (bitmap_of 3 13) ≡ Ok true)

-- A range's end is exclusive, and a reversed range is empty, also above the size; an id may stand twice in a list.
abbrev pub RangesAndLists : Type 0
RangesAndLists =
    (from_range_of 5 1 4 ≡ Ok (bitmap_of 5 14))
    × (from_range_of 5 1 6 ≡ Err BadId)
    × (from_range_of 5 9 7 ≡ Ok (bitmap_of 5 0))
    × (from_ids_of 3 (2 ∷ 0 ∷ 2 ∷ []) ≡ Ok (bitmap_of 3 5))
    × (from_ids_of 3 (2 ∷ 3 ∷ []) ≡ Err BadId)

-- The ids of the ones in lent bytes; too few bytes keep their contents.
abbrev pub LentBytes : Type 0
LentBytes =
    (bytes_after_ones (bitmap_of 3 13) (9 ∷ 9 ∷ 9 ∷ []) ≡ 0 ∷ 2 ∷ 9 ∷ [])
    × (bytes_after_ones (bitmap_of 3 13) (9 ∷ []) ≡ 9 ∷ [])
    × (ones_of (bitmap_of 3 13) (9 ∷ []) ≡ Err ShortSlice)
