-- A turn more of the pass that a higher number asks for, on flat rows. Assumes nothing.
use Rattle.std.specs.Prelude.{map, None}
use Rattle.std.specs.List.{list_all}
use mathlib.Core.Path.{◌≡◌, refl, sym, ap, subst, ◌∙◌}
use mathlib.Core.Bool.{Bool, true, false}
use mathlib.Core.List.{List, [], ◌∷◌, ◌++◌}
use Prim.Native.Nat.{ℕ, zero, suc, ◌+◌, ◌<◌, ◌≤◌}
use native.Mathlib.Omega.{arith}
use borrow.Author.Tests.{eqb-true, eqb-false}
use lib.Dec.{eqb}
use lib.ListN.{length, set, get_or-append, length-set}
use lib.Seq.{get_or-set_same, get_or-set_other}
use Rattle.std.proofs.lemmas.List.{set-append_left, map-set, length-map, length-append}
use Rattle.lease.specs.declared.Peer.{Peer}
use Rattle.lease.specs.Passes.{higher_number_row}
use Rattle.lease.specs.Rows.{empty_row, row_at}
use Rattle.lease.proofs.Tests.{fst-of, snd-of}
use Rattle.peer_rows.specs.Clearing.{ClearedBelow}
use Rattle.wire.specs.declared.flat.PeerC.{PeerC}
use Rattle.wire.specs.Flat.{flat_row}
use Rattle.wire.specs.FromFlat.{peer_of}
use Rattle.wire.specs.Form.{is_row}
use Rattle.wire.proofs.FlatLaws.{row_back, row_is}
use Rattle.flat_record.specs.Sound.{blank_row}
use Rattle.flat_engine.specs.FlatRows.{flat_at}
use Rattle.flat_engine.proofs.Laws.{stands}

-- where all elements pass, one that passes may stand in the place of any
all-set : {A : Type 0} (q : A → Bool) (l : List A) (i : ℕ) (x : A) → list_all q l ≡ true → q x ≡ true → list_all q (set l i x) ≡ true
all-set q [] i x h e = h
all-set q (y ∷ l) zero x h e = rw e (snd-of (q y) (list_all q l) h)
all-set q (y ∷ l) (suc i) x h e = rw (fst-of (q y) (list_all q l) h) (all-set q l i x (snd-of (q y) (list_all q l) h) e)

-- ---- a turn, on rows

-- the row that a turn leaves
abbrev cleared : Peer → Peer
cleared row = (higher_number_row row).peer

-- the rows are cleared below one id more, where that id's row is cleared
module _ (k : ℕ) (before after : List Peer) (c : ClearedBelow k before after) (room : k < length after) where
  abbrev next : List Peer
  next = set after k (cleared (row_at after k))

  same : row_at next k ≡ cleared (row_at after k)
  same = get_or-set_same after k (cleared (row_at after k)) empty_row room

  other : (i : ℕ) → eqb i k ≡ false → row_at next i ≡ row_at after i
  other i e = get_or-set_other after k i (cleared (row_at after k)) empty_row (eqb-false i k e)

  -- what holds of a cleared row and below k, holds below k + 1
  emptied : (Q : Peer → Type 0) → Q (cleared (row_at after k)) → ((i : ℕ) → i < k → Q (row_at after i)) → (i : ℕ) → i < k + 1 → Q (row_at next i)
  emptied Q here low i h = go (eqb i k) refl
    where
      go : (x : Bool) → eqb i k ≡ x → Q (row_at next i)
      go true e = subst (λ (j : ℕ). Q (row_at next j)) (sym (eqb-true i k e)) (subst Q (sym same) here)
      go false e = subst Q (sym (other i e)) (low i (omega (arith, eqb-false i k e, h)))

  clears_next : ClearedBelow (k + 1) before next
  clears_next =
      record {
        promises_sent = emptied (λ (r : Peer). r.promise_sent ≡ None) refl c.promises_sent;
        promises_held = emptied (λ (r : Peer). r.promise_held ≡ None) refl c.promises_held;
        guards_sent = emptied (λ (r : Peer). r.guard_sent ≡ None) refl c.guards_sent;
        guards_held = emptied (λ (r : Peer). r.guard_held ≡ None) refl c.guards_held;
        marks = λ i. go i (eqb i k) refl;
        rest = λ i h. other i (past i h) ∙ c.rest i (omega (arith, h));
        as_many = length-set after k (cleared (row_at after k)) ∙ c.as_many;
      }
    where
      go : (i : ℕ) (x : Bool) → eqb i k ≡ x → (row_at next i).refresh_mark ≡ (row_at before i).refresh_mark
      go i true e =
          subst (λ (j : ℕ). (row_at next j).refresh_mark ≡ (row_at before j).refresh_mark) (sym (eqb-true i k e)) (ap (λ (r : Peer). r.refresh_mark) same ∙ c.marks k)
      go i false e = ap (λ (r : Peer). r.refresh_mark) (other i e) ∙ c.marks i

      past : (i : ℕ) → k + 1 ≤ i → eqb i k ≡ false
      past i h = not (eqb i k) refl
        where
          not : (x : Bool) → eqb i k ≡ x → eqb i k ≡ false
          not true e = absurd (omega (arith, h, eqb-true i k e))
          not false e = e

-- ---- a turn, on flat rows: those that the loop goes through, and those behind them

module _ (k : ℕ) (before items behind : List PeerC) (inside : k < length items) (x : PeerC) (is : x ≡ flat_row (cleared (peer_of (flat_at items k)))) where
  abbrev rows : List PeerC
  rows = items ++ behind

  put : set rows k x ≡ set items k x ++ behind
  put = set-append_left items behind k x inside

  room : k < length rows
  room = rw length-append (omega (arith, inside))

  -- what is written is the row that a turn leaves
  wrote : peer_of x ≡ cleared (row_at (map peer_of rows) k)
  wrote =
      ap peer_of is ∙ row_back (cleared (peer_of (flat_at items k)))
      ∙ ap (λ (p : PeerC). cleared (peer_of p)) (sym (get_or-append items behind blank_row k inside)) ∙ ap cleared (stands rows k room)

  pub next_cleared : ClearedBelow k (map peer_of before) (map peer_of rows) → ClearedBelow (k + 1) (map peer_of before) (map peer_of (set items k x ++ behind))
  next_cleared c =
      let turned = clears_next k (map peer_of before) (map peer_of rows) c (rw length-map room) in
      rw (← put, map-set peer_of rows k x, wrote) turned

  pub next_form : list_all is_row rows ≡ true → list_all is_row (set items k x ++ behind) ≡ true
  next_form h = rw (← put) (all-set is_row rows k x h (rw is (row_is (cleared (peer_of (flat_at items k))))))
