-- Bitmaps that a test makes, and the answers of the calls. Assumes nothing.
use Prim.Native.Nat.{ℕ, ◌≤◌, ◌<◌, ◌^◌}
use mathlib.Core.Path.{◌≡◌, refl, sym, ap, ◌∙◌}
use mathlib.Core.Bool.{Bool, true, false, not, true≢false, ◌&&◌}
use native.Mathlib.Omega.{arith}
use lib.Dec.{eqb, leb, ltb}
use borrow.Author.Tests.{eqb-true, eq-eqb, leb-true, ltb-true, ltb-false, lt-ltb, le-ltb}
use Rattle.bitmap.specs.declared.Bitmap.{Bitmap}
use Rattle.bitmap.specs.Sets.{member, count_where}
use Rattle.bitmap.specs.Bitmaps.{capacity, number, bitmap_of, bitmap_where, is_one}
use Rattle.std.specs.Prelude.{◌↔◌, Result, Ok}
use Rattle.bitmap.specs.declared.BitmapError.{BitmapError}
use Rattle.bitmap.specs.Operations.{is_missing, in_range}
use Rattle.bitmap.specs.Claims.{NoOneAbove, OnesAreTaken, MadeOfOnes, OnesAndZeros, SupersetHasAll, NoRange}
use Rattle.bitmap.proofs.SetsLemmas.{ids_where-lt}
use Rattle.bitmap.proofs.SetsLemmas.{member-beyond, member_below, ids_where-same, ids_where-member, ids_where-empty, count_where-none, empty-count, count_where-not}

-- the ones of a bitmap that a test makes: below the size, what the test says
pub is_one-below : (size : ℕ) (p : ℕ → Bool) (i : ℕ) → i < size → is_one (bitmap_where size p) i ≡ p i
is_one-below size p i h = rw (lt-ltb i size h) (member_below p size i h)

-- at or above the size there is no one
pub is_one-above : (b : Bitmap) (i : ℕ) → b.size ≤ i → is_one b i ≡ false
is_one-above b i h = rw (le-ltb i b.size h)

-- a number of 64 bits has no id at or above 64
pub is_one_past : (b : Bitmap) (i : ℕ) → number b < 2 ^ capacity → capacity ≤ i → is_one b i ≡ false
is_one_past b i l h = rw (member-beyond (number b) capacity i l h) (none (ltb i b.size))
  where
    none : (x : Bool) → (x && false) ≡ false
    none true = refl
    none false = refl

-- ---- the claims of specs/Claims.antt on sets
pub no-one-above : NoOneAbove
no-one-above size p = ids_where-lt p size

pub ones-are-taken : OnesAreTaken
ones-are-taken size p i = go (ltb i size) refl
  where
    go : (x : Bool) → ltb i size ≡ x → is_one (bitmap_where size p) i ≡ (x && p i)
    go true e = is_one-below size p i (ltb-true i size e)
    go false e = is_one-above (bitmap_where size p) i (ltb-false i size e)

pub made-of-ones : MadeOfOnes
made-of-ones b h = ap (bitmap_of b.size) (ids_where-same (is_one b) (member (number b)) b.size (λ i l. rw (lt-ltb i b.size l)) ∙ ids_where-member (number b) b.size h)

pub ones-and-zeros : OnesAndZeros
ones-and-zeros b = count_where-not (is_one b) b.size

pub no-range : NoRange
no-range size start end h = ap (bitmap_of size) (ids_where-empty (in_range start end) size (λ i l. go i (leb start i) refl))
  where
    go : (i : ℕ) (x : Bool) → leb start i ≡ x → (x && ltb i end) ≡ false
    go i true e = let l = leb-true start i e in le-ltb i end (omega arith)
    go i false e = refl

-- nothing missing: every one of the other set is a one of b
superset-all : (b other : Bitmap) → count_where (is_missing b other) other.size ≡ 0 → (i : ℕ) → is_one other i ≡ true → is_one b i ≡ true
superset-all b other e i on = go (ltb i other.size) refl
  where
    held : (x y : Bool) → x ≡ true → (x && not y) ≡ false → y ≡ true
    held true true p q = refl
    held true false p q = absurd (true≢false q)
    held false y p q = absurd (true≢false (sym p))

    go : (x : Bool) → ltb i other.size ≡ x → is_one b i ≡ true
    go true l = held (is_one other i) (is_one b i) on (count_where-none (is_missing b other) other.size e i (ltb-true i other.size l))
    go false l = absurd (true≢false (sym on ∙ is_one-above other i (ltb-false i other.size l)))

-- and the other way round
all-superset : (b other : Bitmap) → ((i : ℕ) → is_one other i ≡ true → is_one b i ≡ true) → count_where (is_missing b other) other.size ≡ 0
all-superset b other e = empty-count (is_missing b other) other.size (ids_where-empty (is_missing b other) other.size (λ i h. go i (is_one other i) refl))
  where
    go : (i : ℕ) (x : Bool) → is_one other i ≡ x → (x && not (is_one b i)) ≡ false
    go i true on = rw (e i on)
    go i false off = refl

pub superset-has-all : SupersetHasAll
superset-has-all b other s t = rw (s, t) (go (eqb (count_where (is_missing b other) other.size) 0) refl)
  where
    go : (x : Bool) → eqb (count_where (is_missing b other) other.size) 0 ≡ x → let r : Result Bool BitmapError = Ok x in (r ≡ Ok true) ↔ ((i : ℕ) → is_one other i ≡ true → is_one b i ≡ true)
    go true e = (λ h. superset-all b other (eqb-true (count_where (is_missing b other) other.size) 0 e), λ h. refl)
    go false e = (λ h. absurd (cc h), λ h. absurd (true≢false (sym (eq-eqb (count_where (is_missing b other) other.size) 0 (all-superset b other h)) ∙ e)))
