-- What each call answers (rules 2.3 to 2.14): its refusals by the tests in the order of rule 10.30, then the set, the flag or the count.
-- The calls stand in bitmap::calls, bitmap::sets and bitmap::lists. A set is made by a test on the ids below its size, and `is_one` reads a
-- set, so ones at or above the size count as zeros and are zero in every set handed back (rule 2.2). Definitions only.
use Rattle.std.specs.Prelude.{ℕ, zero, suc, Result, Ok, Err, Bool, false, cond, not, ◌&&◌, ◌||◌, List, [], ◌∷◌, ◌++◌, eqb, leb, ltb, length, drop}
use Rattle.std.specs.List.{list_any}
use Rattle.bitmap.specs.declared.Bitmap.{Bitmap}
use Rattle.bitmap.specs.declared.BitmapError.{BitmapError}
use Rattle.bitmap.specs.declared.BitmapError.TheVariants.{BadId, SizesDiffer, BadSize, ShortSlice}
use Rattle.bitmap.specs.Sets.{count_where}
use Rattle.bitmap.specs.Bitmaps.{capacity, bitmap_where, is_one}

-- ---- refusals
-- The number of a refusal (rules 10.10 to 10.13).
abbrev pub bitmap_refusal_number : BitmapError → ℕ
bitmap_refusal_number BadId = 10
bitmap_refusal_number SizesDiffer = 11
bitmap_refusal_number BadSize = 12
bitmap_refusal_number ShortSlice = 13

-- Whether the size is not 1 to the capacity (rule 10.12).
unfoldable pub bad_size : ℕ → Bool
bad_size n = eqb n 0 || ltb capacity n

-- What a look at the size gives.
abbrev pub size_checked : ℕ → Result Unit BitmapError
size_checked size = cond (bad_size size) (Err BadSize) (Ok tt)

-- Whether the id is not below the size (rule 10.10).
abbrev pub bad_id : ℕ → ℕ → Bool
bad_id size id = leb size id

-- Whether two sets have different sizes (rule 10.11).
abbrev pub sizes_differ : Bitmap → Bitmap → Bool
sizes_differ b other = not (eqb b.size other.size)

-- Whether the lent bytes are fewer than the ones (rule 10.13).
abbrev pub short : Bitmap → List ℕ → Bool
short b bytes = ltb (length bytes) (count_where (is_one b) b.size)

-- Whether some id from start to below end is not below the size: where start is not below end there is none.
abbrev pub bad_range : ℕ → ℕ → ℕ → Bool
bad_range size start end = ltb start end && ltb size end

-- Whether some id of the list is not below the size.
abbrev pub outside : ℕ → List ℕ → Bool
outside size ids = list_any (bad_id size) ids

-- ---- tests on an id
-- The id `id` by the flag, any other as it was.
abbrev pub with_id : Bitmap → ℕ → Bool → ℕ → Bool
with_id b id flag i = cond (eqb i id) flag (is_one b i)

-- An id that is none of the ones.
abbrev pub is_off : Bitmap → ℕ → Bool
is_off b i = not (is_one b i)

-- A one of either set.
abbrev pub in_either : Bitmap → Bitmap → ℕ → Bool
in_either b other i = is_one b i || is_one other i

-- A one of the other set that is none of b.
abbrev pub is_missing : Bitmap → Bitmap → ℕ → Bool
is_missing b other i = is_one other i && not (is_one b i)

-- An id of the range.
abbrev pub in_range : ℕ → ℕ → ℕ → Bool
in_range start end i = leb start i && ltb i end

-- An id of the list.
abbrev pub listed : List ℕ → ℕ → Bool
listed ids i = list_any (eqb i) ids

-- ---- the calls
-- The set of the ids below the size that a test takes.
abbrev pub built : ℕ → (ℕ → Bool) → Result Bitmap BitmapError
built size p = cond (bad_size size) (Err BadSize) (Ok (bitmap_where size p))

-- `new` (rule 2.3): every id below the size, or none.
abbrev pub new_of : ℕ → Bool → Result Bitmap BitmapError
new_of size ones = built size (λ i. ones)

-- `set` (rule 2.6).
abbrev pub set_of : Bitmap → ℕ → Bool → Result Bitmap BitmapError
set_of b id flag =
    cond (bad_size b.size) (Err BadSize)
    (cond (bad_id b.size id) (Err BadId)
    (Ok (bitmap_where b.size (with_id b id flag))))

-- `get` (rule 2.7).
abbrev pub get_of : Bitmap → ℕ → Result Bool BitmapError
get_of b id =
    cond (bad_size b.size) (Err BadSize)
    (cond (bad_id b.size id) (Err BadId)
    (Ok (is_one b id)))

-- `size` (rule 2.8).
abbrev pub size_of : Bitmap → Result ℕ BitmapError
size_of b = cond (bad_size b.size) (Err BadSize) (Ok b.size)

-- `count` (rule 2.9): how many ones.
abbrev pub count_of : Bitmap → Result ℕ BitmapError
count_of b = cond (bad_size b.size) (Err BadSize) (Ok (count_where (is_one b) b.size))

-- `flip` (rule 2.10): the zeros.
abbrev pub flip_of : Bitmap → Result Bitmap BitmapError
flip_of b = built b.size (is_off b)

-- `union` (rule 2.11): the ones of either.
abbrev pub union_of : Bitmap → Bitmap → Result Bitmap BitmapError
union_of b other =
    cond (bad_size b.size || bad_size other.size) (Err BadSize)
    (cond (sizes_differ b other) (Err SizesDiffer)
    (Ok (bitmap_where b.size (in_either b other))))

-- `is_superset` (rule 2.12): no one of the other set is missing, and sizes may differ.
abbrev pub is_superset_of : Bitmap → Bitmap → Result Bool BitmapError
is_superset_of b other =
    cond (bad_size b.size || bad_size other.size) (Err BadSize)
    (Ok (eqb (count_where (is_missing b other) other.size) 0))

-- `clear` (rule 2.13): no id.
abbrev pub clear_of : Bitmap → Result Bitmap BitmapError
clear_of b = built b.size (λ i. false)

-- `from_range` (rule 2.4): the ids from start to below end.
abbrev pub from_range_of : ℕ → ℕ → ℕ → Result Bitmap BitmapError
from_range_of size start end =
    cond (bad_size size) (Err BadSize)
    (cond (bad_range size start end) (Err BadId)
    (Ok (bitmap_where size (in_range start end))))

-- `from_ids` (rule 2.5): the ids of the list.
abbrev pub from_ids_of : ℕ → List ℕ → Result Bitmap BitmapError
from_ids_of size ids =
    cond (bad_size size) (Err BadSize)
    (cond (outside size ids) (Err BadId)
    (Ok (bitmap_where size (listed ids))))

-- ---- the ids of the ones in lent bytes
-- The ids below n that a test takes, ascending.
unfoldable pub ids_below : (ℕ → Bool) → ℕ → List ℕ
ids_below p zero = []
ids_below p (suc n) = ids_below p n ++ cond (p n) (n ∷ []) []

-- The ids from the start of the bytes on; the bytes past them as they are (rule 2.15).
abbrev pub laid_over : List ℕ → List ℕ → List ℕ
laid_over ids bytes = ids ++ drop (length ids) bytes

-- `ones` (rule 2.14): how many ids are written.
abbrev pub ones_of : Bitmap → List ℕ → Result ℕ BitmapError
ones_of b bytes =
    cond (bad_size b.size) (Err BadSize)
    (cond (short b bytes) (Err ShortSlice)
    (Ok (count_where (is_one b) b.size)))

-- `ones`: the lent bytes after the call; on a refusal as they are before it (rule 2.15).
abbrev pub bytes_after_ones : Bitmap → List ℕ → List ℕ
bytes_after_ones b bytes =
    cond (bad_size b.size) bytes
    (cond (short b bytes) bytes
    (laid_over (ids_below (is_one b) b.size) bytes))
