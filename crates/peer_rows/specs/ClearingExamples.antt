-- Rule 7.3: three rows, own id 0, on the way through the pass, and rows that are not cleared below
-- 2 or 3. Statements only.
use Rattle.std.specs.Prelude.{Bool, true, false, List, [], ◌∷◌, Option, None, Some}
use Rattle.lease.specs.Types.{Timer, Unarmed, Armed, Exploded}
use Rattle.lease.specs.declared.Peer.{Peer}
use Rattle.lease.specs.Rows.{empty_row}
use Rattle.peer_rows.specs.Clearing.{ClearedBelow}

-- A peer with a promise sent, a promise held that has run out, and a mark; and the same once it is
-- cleared.
abbrev pub promised : Peer
promised =
    record {
      guard_sent = None;
      promise_sent = Some (Armed (record { 0 = 2000000000 }), true);
      guard_held = None;
      promise_held = Some Exploded;
      refresh_mark = true;
    }

abbrev pub only_marked : Peer
only_marked = record { guard_sent = None; promise_sent = None; guard_held = None; promise_held = None; refresh_mark = true }

-- A peer with a guard on either side.
abbrev pub guarded : Peer
guarded =
    record {
      guard_sent = Some Unarmed;
      promise_sent = None;
      guard_held = Some (Armed (record { 0 = 1000000000 }));
      promise_held = None;
      refresh_mark = false;
    }

-- The rows as the pass finds them.
abbrev pub found : List Peer
found = empty_row ∷ promised ∷ guarded ∷ []

-- With the ids below 0, 1, 2 and 3 done.
abbrev pub OnTheWay : Type 0
OnTheWay = ClearedBelow 0 found found × ClearedBelow 1 found found × ClearedBelow 2 found (empty_row ∷ only_marked ∷ guarded ∷ [])
    × ClearedBelow 3 found (empty_row ∷ only_marked ∷ empty_row ∷ [])

-- Not cleared: one id too few is done,
abbrev pub NotOneFewer : Type 0
NotOneFewer = ClearedBelow 3 found (empty_row ∷ only_marked ∷ guarded ∷ []) → ⊥

-- one too many,
abbrev pub NotOneMore : Type 0
NotOneMore = ClearedBelow 2 found (empty_row ∷ only_marked ∷ empty_row ∷ []) → ⊥

-- the promise sent is left, or the promise held,
abbrev pub promise_left : Option (Timer × Bool) → Option Timer → Peer
promise_left sent held = record { guard_sent = None; promise_sent = sent; guard_held = None; promise_held = held; refresh_mark = true }

abbrev pub NotOneTable : Type 0
NotOneTable = (ClearedBelow 2 found (empty_row ∷ promise_left promised.promise_sent None ∷ guarded ∷ []) → ⊥)
    × (ClearedBelow 2 found (empty_row ∷ promise_left None promised.promise_held ∷ guarded ∷ []) → ⊥)

-- or the mark is dropped.
abbrev pub NotWithoutMark : Type 0
NotWithoutMark = ClearedBelow 2 found (empty_row ∷ empty_row ∷ guarded ∷ []) → ⊥
