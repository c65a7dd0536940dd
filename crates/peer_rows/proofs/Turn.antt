-- A turn more of a loop over the rows: of the rows, and of the sets and the count. Assumes nothing.
use Prim.Native.Nat.{ℕ, ◌+◌, ◌<◌, ◌≤◌, ◌^◌}
use mathlib.Core.Path.{◌≡◌, refl, sym, ap, ◌∙◌}
use mathlib.Core.Bool.{Bool}
use mathlib.Core.List.{List, ◌++◌}
use native.Mathlib.Nat.{two-pow-succ}
use native.Mathlib.Numerals.{add-one}
use native.Mathlib.Omega.{arith}
use lib.ListN.{length, get_or, set, drop, get_or-append}
use Rattle.std.proofs.lemmas.List.{set-get_or, set-append_left}
use Rattle.lease.specs.Types.{Bitmap}
use Rattle.lease.specs.Sets.{weight, ids_where, one, count_where}
use Rattle.lease.specs.Bitmaps.{bitmap_of}
use Rattle.bitmap.proofs.SetsLemmas.{one-le, weight-le, ids_where-more, count_where-more}
use Rattle.lease.specs.Pass.{Pass}
use Rattle.lease.specs.Rows.{row_at}
use Rattle.lease.specs.Passes.{visit_of, is_first, is_second, pass_over}
use Rattle.lease.specs.declared.Peer.{Peer}
use Rattle.lease.specs.Tables.{below}
use Rattle.lease.proofs.Tables.{below_at, below_more}
use Rattle.peer_rows.specs.Marks.{marks_of}

-- ---- the rows, where those below i are done
module _ {A : Type 0} (f : ℕ → A → A) (t : List A) (d : A) (i : ℕ) where
  -- the next row is still the old one
  still : (rows : List A) → rows ≡ below i f t → get_or rows i d ≡ get_or t i d
  still rows done = ap (λ (l : List A). get_or l i d) done ∙ below_at i f t d

  -- it is done
  pub put_next : (rows : List A) → rows ≡ below i f t → i < length t → (x : A) → x ≡ f i (get_or rows i d) → set rows i x ≡ below (i + 1) f t
  put_next rows done room x e = rw (e ∙ ap (f i) (still rows done), done) (below_more i f t d room)

  -- it need not be
  pub keep_next : (rows : List A) → rows ≡ below i f t → i < length t → f i (get_or t i d) ≡ get_or t i d → rows ≡ below (i + 1) f t
  keep_next rows done room e = sym (set-get_or rows i d) ∙ put_next rows done room (get_or rows i d) (still rows done ∙ sym (ap (f i) (still rows done) ∙ e))

  -- the same where a loop goes through the first n of the rows: `items`, as they are now
  pub item_still : (items : List A) (n : ℕ) → items ++ drop n t ≡ below i f t → i < length items → get_or items i d ≡ get_or t i d
  item_still items n done inside = sym (get_or-append items (drop n t) d i inside) ∙ still (items ++ drop n t) done

  pub put_item : (items : List A) (n : ℕ) → items ++ drop n t ≡ below i f t → i < length items → i < length t → (x : A) → x ≡ f i (get_or items i d) → set items i x ++ drop n t ≡ below (i + 1) f t
  put_item items n done inside room x e =
      sym (set-append_left items (drop n t) i x inside)
      ∙ put_next (items ++ drop n t) done room x (e ∙ ap (f i) (sym (get_or-append items (drop n t) d i inside)))

-- ---- the sets and the count of a pass
-- a set of ids below i with the id i, or without it, has ids below i + 1
set_fits : (s : ℕ) (b : Bool) (i : ℕ) → s < 2 ^ i → s + weight b i < 2 ^ (i + 1)
set_fits s b i h = rw add-one (omega (arith, h, weight-le b i, two-pow-succ i))

module _ (pass : Pass) (own n : ℕ) (rows : List Peer) where
  -- they have the ids below i as the pass puts them there
  pub record Marked (first second : Bitmap) (count i : ℕ) : Type 0 where
    pub few_first : first.bits < 2 ^ i
    pub few_second : second.bits < 2 ^ i
    pub few : count ≤ i
    pub in_first : first ≡ bitmap_of n (ids_where (is_first pass own rows) i)
    pub in_second : second ≡ bitmap_of n (ids_where (is_second pass own rows) i)
    pub counted : count ≡ count_where (is_first pass own rows) i

  pub none_marked : Marked (bitmap_of n 0) (bitmap_of n 0) 0 0
  unfolding ids_where count_where
  none_marked = record { few_first = omega arith; few_second = omega arith; few = omega arith; in_first = refl; in_second = refl; counted = refl }

  -- an id more, of whom the rule is asked
  pub mark_more : (first second : Bitmap) (count i : ℕ) → Marked first second count i → (row : Peer) → row ≡ row_at rows i → (a b : Bool) → a ≡ (visit_of pass own i row).first → b ≡ (visit_of pass own i row).second
      → Marked (bitmap_of first.size (first.bits + weight a i)) (bitmap_of second.size (second.bits + weight b i)) (count + one a) (i + 1)
  mark_more first second count i m row at a b e f =
      let more = one-le a in
      let x : a ≡ is_first pass own rows i = e ∙ ap (λ (r : Peer). (visit_of pass own i r).first) at in
      let y : b ≡ is_second pass own rows i = f ∙ ap (λ (r : Peer). (visit_of pass own i r).second) at in
      record {
        few_first = set_fits first.bits a i m.few_first;
        few_second = set_fits second.bits b i m.few_second;
        few = omega (arith, m.few, more);
        in_first = rw (m.in_first, x) (ap (bitmap_of n) (ids_where-more (is_first pass own rows) i));
        in_second = rw (m.in_second, y) (ap (bitmap_of n) (ids_where-more (is_second pass own rows) i));
        counted = rw (m.counted, x) (count_where-more (is_first pass own rows) i);
      }

  -- all ids
  pub all_marked : (first second : Bitmap) (count i : ℕ) → Marked first second count i → i ≡ n → record { first = first; second = second; count = count } ≡ marks_of (pass_over pass own n rows)
  unfolding pass_over
  all_marked first second count i m e = rw (m.in_first, m.in_second, m.counted, e) refl
