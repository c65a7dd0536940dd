-- Lists of ids: which ids a list has, the list of the ids that a test takes, and that list laid over lent bytes. Assumes nothing.
use Prim.Native.Nat.{ℕ, zero, suc, ◌+◌, ◌<◌, ◌≤◌}
use mathlib.Core.Path.{◌≡◌, refl, sym, ap, ◌∙◌}
use mathlib.Core.Bool.{Bool, true, false, ◌&&◌, ◌||◌, cond}
use mathlib.Core.Logic.{◌⊎◌, inl, inr, ⊎_elim}
use mathlib.Core.List.{List, [], ◌∷◌, ◌++◌, append-nil, append_assoc}
use native.Mathlib.Numerals.{add-one}
use lib.Dec.{eqb, ltb}
use native.Mathlib.Omega.{arith}
use borrow.Author.Tests.{eqb-true, eqb-false, eq-eqb, ltb-true, ltb-false, lt-ltb, le-ltb}
use lib.ListN.{length, get_or, set, take, drop, length-append, get_or-append}
use lib.Seq.{set-append_seam, get_or-append_seam}
use Rattle.std.specs.List.{list_any, filter, range_with_len, enumerate_from}
use Rattle.std.proofs.lemmas.List.{get_or_default, map-id, take_more, drop_more, length-take-le}
use Rattle.std.proofs.lemmas.List.Elements.{filter-append}
use Rattle.std.proofs.lemmas.List.FromFn.{map-range_with_len_more, length-enumerate_from, get_or-enumerate_from}
use Rattle.std.proofs.lemmas.List.Folds.{list_any-append}
use Rattle.bitmap.specs.Sets.{member, one, count_where}
use Rattle.bitmap.specs.Bitmaps.{number, is_one, bitmap_of, bitmap_where}
use Rattle.bitmap.specs.Operations.{listed, ids_below}
use Rattle.bitmap.specs.Claims.{ListedCount, ListedOnes, ListedAscending}
use Rattle.bitmap.proofs.SetsLemmas.{ids_where-same}

-- ---- the ids below n that a test takes, as a list
-- as many as the count says
pub length-ids_below : (p : ℕ → Bool) (n : ℕ) → length (ids_below p n) ≡ count_where p n
unfolding ids_below count_where
length-ids_below p zero = refl
length-ids_below p (suc n) = simp (length-append, length-ids_below p n) (ap (λ k. count_where p n + k) (last (p n)))
  where
    last : (x : Bool) → length (cond x (n ∷ []) []) ≡ one x
    last true = refl
    last false = refl

-- they are what the test takes of the ids below n
range_more : (n : ℕ) → range_with_len 0 (n + 1) ≡ range_with_len 0 n ++ n ∷ []
range_more n = sym (map-id (range_with_len 0 (n + 1))) ∙ map-range_with_len_more (λ x. x) 0 n n (omega arith) ∙ ap (λ (xs : List ℕ). xs ++ n ∷ []) (map-id (range_with_len 0 n))

pub filter-range : (p : ℕ → Bool) (n : ℕ) → filter p (range_with_len 0 n) ≡ ids_below p n
unfolding ids_below
filter-range p zero = refl
filter-range p (suc n) =
    ap (λ (k : ℕ). filter p (range_with_len 0 k)) (sym (add-one n)) ∙ ap (filter p) (range_more n) ∙ filter-append p (range_with_len 0 n) (n ∷ [])
    ∙ ap (λ (xs : List ℕ). xs ++ cond (p n) (n ∷ []) []) (filter-range p n)

-- the next id written behind those that are laid over the bytes
put : (xs ys : List ℕ) (y id k : ℕ) → length xs ≡ k → set (xs ++ y ∷ ys) k id ≡ xs ++ id ∷ ys
put xs ys y id k e = rw (← e) (set-append_seam xs y ys id)

pub laid_next : (ids bytes : List ℕ) (k : ℕ) → k < length ids → length ids ≤ length bytes → set (take k ids ++ drop k bytes) k (get_or ids k 0) ≡ take (k + 1) ids ++ drop (k + 1) bytes
laid_next ids bytes k h room =
    let here : k < length bytes = omega arith in
    rw (drop_more bytes k 0 here, take_more ids k 0 h, append_assoc) (put (take k ids) (drop (k + 1) bytes) (get_or bytes k 0) (get_or ids k 0) k (length-take-le k ids (omega arith)))

-- the id that comes at a place of the list with its places is the list's
pub its_place : (ids : List ℕ) (k at id : ℕ) → (k < length (enumerate_from 0 ids)) × ((at, id) ≡ get_or (enumerate_from 0 ids) k (at, id)) → (k < length ids) × (at ≡ k) × (id ≡ get_or ids k 0)
its_place ids k at id h =
    let l : k < length ids = rw (← length-enumerate_from 0 ids) h.0 in
    let e : (at, id) ≡ (0 + k, get_or ids k id) = h.1 ∙ get_or-enumerate_from 0 ids k (at, id) l in
    (l, omega (arith, ap (λ (x : ℕ × ℕ). x.0) e), ap (λ (x : ℕ × ℕ). x.1) e ∙ get_or_default ids k id 0 l)

-- an id more at the end, or none
listed-if : (x : Bool) (ids : List ℕ) (id i : ℕ) → listed (ids ++ cond x (id ∷ []) []) i ≡ (x && eqb i id || listed ids i)
listed-if x ids id i = rw (list_any-append (eqb i) ids (cond x (id ∷ []) [])) (last x (listed ids i))
  where
    swap : (y z : Bool) → (y || (z || false)) ≡ (z || y)
    swap true true = refl
    swap true false = refl
    swap false true = refl
    swap false false = refl

    off : (y : Bool) → (y || false) ≡ y
    off true = refl
    off false = refl

    last : (x y : Bool) → (y || list_any (eqb i) (cond x (id ∷ []) [])) ≡ (x && eqb i id || y)
    last true y = swap y (eqb i id)
    last false y = off y

-- the list has the ids below n that the test takes, and no other
listed-ids_below : (p : ℕ → Bool) (n i : ℕ) → listed (ids_below p n) i ≡ (ltb i n && p i)
unfolding ids_below
listed-ids_below p zero i = rw (le-ltb i 0 (omega arith))
listed-ids_below p (suc n) i = rw (listed-if (p n) (ids_below p n) n i, listed-ids_below p n i) (go (eqb i n) refl)
  where
    at : (b : Bool) → (b && true || false) ≡ b
    at true = refl
    at false = refl

    off : (b c : Bool) → (b && false || c) ≡ c
    off true c = refl
    off false c = refl

    next : (x : Bool) → ltb i n ≡ x → (i ≡ n → ⊥) → ltb i (suc n) ≡ x
    next true e ne = let l = ltb-true i n e in lt-ltb i (suc n) (omega arith)
    next false e ne = let l = ltb-false i n e in le-ltb i (suc n) (omega (arith, ne))

    go : (x : Bool) → eqb i n ≡ x → (p n && eqb i n || ltb i n && p i) ≡ (ltb i (suc n) && p i)
    go true e = rw (eqb-true i n e, eq-eqb n n refl, le-ltb n n (omega arith), lt-ltb n (suc n) (omega arith)) (at (p n))
    go false e = rw (e, next (ltb i n) refl (eqb-false i n e)) (off (p n) (ltb i n && p i))

-- the set of the ids of the ones is the set
pub of-its-list : (p : ℕ → Bool) (n : ℕ) → bitmap_where n (listed (ids_below p n)) ≡ bitmap_where n p
of-its-list p n = ap (bitmap_of n) (ids_where-same (listed (ids_below p n)) p n (λ i h. listed-ids_below p n i ∙ rw (lt-ltb i n h)))

-- what stands at a place of a list that one id may have been added to: an element of the list, or the id
at-end : (x : Bool) (ids : List ℕ) (id k : ℕ) → k < length (ids ++ cond x (id ∷ []) []) → (k < length ids) ⊎ ((k ≡ length ids) × (get_or (ids ++ cond x (id ∷ []) []) k 0 ≡ id))
at-end x ids id k h = go x (ltb k (length ids)) refl h
  where
    go : (x y : Bool) → ltb k (length ids) ≡ y → k < length (ids ++ cond x (id ∷ []) []) → (k < length ids) ⊎ ((k ≡ length ids) × (get_or (ids ++ cond x (id ∷ []) []) k 0 ≡ id))
    go x true e h = inl (ltb-true k (length ids) e)
    go true false e h =
        let past = ltb-false k (length ids) e in
        let end : k ≡ length ids = omega (arith, simp length-append at h) in
        inr (end, rw end (get_or-append_seam ids id [] 0))
    go false false e h = let past = ltb-false k (length ids) e in absurd (omega (arith, rw append-nil at h))

-- each id of the list is below n
ids_below-lt : (p : ℕ → Bool) (n k : ℕ) → k < length (ids_below p n) → get_or (ids_below p n) k 0 < n
unfolding ids_below
ids_below-lt p zero k h = absurd (omega arith)
ids_below-lt p (suc n) k h =
    ⊎_elim
    (λ l. rw (get_or-append (ids_below p n) (cond (p n) (n ∷ []) []) 0 k l) (omega (arith, ids_below-lt p n k l)))
    (λ e. omega (arith, e.1))
    (at-end (p n) (ids_below p n) n k h)

-- the ids ascend
ids_below-ascends : (p : ℕ → Bool) (n j k : ℕ) → j < k → k < length (ids_below p n) → get_or (ids_below p n) j 0 < get_or (ids_below p n) k 0
unfolding ids_below
ids_below-ascends p zero j k l h = absurd (omega arith)
ids_below-ascends p (suc n) j k l h =
    ⊎_elim
    (λ m. rw (old j (omega arith), old k m) (ids_below-ascends p n j k l m))
    (λ e. let m : j < length (ids_below p n) = omega arith in rw (old j m, e.1) (ids_below-lt p n j m))
    (at-end (p n) (ids_below p n) n k h)
  where
    old : (i : ℕ) → i < length (ids_below p n) → get_or (ids_below p n ++ cond (p n) (n ∷ []) []) i 0 ≡ get_or (ids_below p n) i 0
    old i m = get_or-append (ids_below p n) (cond (p n) (n ∷ []) []) 0 i m

-- ---- the claims of specs/Claims.antt on the list of the ones
pub listed-count : ListedCount
listed-count b = length-ids_below (is_one b) b.size

pub listed-ones : ListedOnes
listed-ones b i = listed-ids_below (is_one b) b.size i ∙ once (ltb i b.size) (member (number b) i)
  where
    once : (x y : Bool) → (x && (x && y)) ≡ (x && y)
    once true y = refl
    once false y = refl

pub listed-ascending : ListedAscending
listed-ascending b j k l h = ids_below-ascends (is_one b) b.size j k l h
