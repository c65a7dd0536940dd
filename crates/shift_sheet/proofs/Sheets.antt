-- What is claimed of the shift sheet by itself: its totals, the room in its columns, what is written is read, and its length. Assumes nothing.
use Rattle.std.specs.Prelude.{Option, None, Some, Ok}
use Prim.Native.Nat.{ℕ, zero, suc, ◌+◌, ◌*◌, ◌≤◌, ◌<◌}
use mathlib.Core.Path.{◌≡◌, refl, sym, ap, ◌∙◌}
use mathlib.Core.Bool.{Bool, true, false, cond, ◌&&◌}
use mathlib.Core.List.{List, [], ◌∷◌, ◌++◌, append_assoc}
use native.Mathlib.Omega.{arith}
use lib.Dec.{eqb, leb, ltb}
use lib.ListN.{length, drop, replicate}
use lib.Seq.{take_at}
use borrow.Author.Tests.{ne_eqb, leb-true, lt-ltb, le-ltb}
use Rattle.lease.specs.Bitmaps.{capacity, bitmap_where, is_one}
use Rattle.lease.specs.Sets.{count_where}
use Rattle.lease.specs.Operations.{bad_size, count_of}
use Rattle.bitmap.proofs.SetsLemmas.{count_where-same}
use Rattle.bitmap.proofs.SetsLemmas.{count_where-le}
use Rattle.bitmap.proofs.Bitmaps.{is_one-below}
use Rattle.lease.specs.Types.{Reading, Timer, Unarmed, Armed, Exploded}
use Rattle.lease.specs.Timers.{ms_left, farthest}
use Rattle.card_text.specs.Text.{lines_read}
use Rattle.card_text.proofs.Newlines.{Unbroken, unbroken-both, unbroken-column, line-ended}
use Rattle.card_text.proofs.FiveColumns.{five-written-is-read, five-read-is-written}
use Rattle.lease.specs.declared.Peer.{Peer}
use Rattle.lease.specs.declared.Manager.{Manager}
use Rattle.lease.specs.Pass as P
use Rattle.lease.specs.Rows.{row_at, promise_timer}
use Rattle.lease.specs.Passes.{is_first, pass_over}
use Rattle.lease.specs.Calls.{grant_set, lease_set}
use Rattle.lease.specs.RecordCheck.{unarmed, sent_guard_valid, timer_valid, entry_valid, grant_valid, timers_valid, sides_valid, row_valid, row_valid_at, record_valid}
use Rattle.lease.proofs.Tests.{both, fst-of, snd-of}
use Rattle.lease.proofs.RecordCheck.{rows_of, row-of}
use Rattle.refusals.proofs.Laws.{fits as record-fits}
use Rattle.shift_sheet.specs.declared.rows.SheetRow.{SheetRow}
use Rattle.shift_sheet.specs.Sheet.{grant_state, held_state, side_timer, side_left, peer_row, rows_below, rows_of_peers, total_row, row_columns, row_text, rows_text, sheet_row, sheet_rows, row_read, row_bytes, sheet_bytes, sheet_text, printed}
use Rattle.shift_sheet.specs.Claims.{TotalsAreTables, HeldIsLeaseSet, GrantIsGrantSet, RowHasRoom, AllHaveRoom, RowsHaveRoom, RowsWrittenAreRead, RowReadIsWritten, SheetIsRead, SheetLength, PrintedIsText}
use Rattle.shift_sheet.proofs.Totals.{granted_rows, leased_rows}
use Rattle.shift_sheet.proofs.Text.{length_row, peers_length, sheet_length}

-- ---- the totals

-- the counts of the rows are those of the tables
pub totals-are-tables : TotalsAreTables
unfolding total_row
totals-are-tables m = (granted_rows m, leased_rows m)

-- a size of 1 to the capacity is not refused
good-size : (n : ℕ) → 0 < n → n ≤ capacity → bad_size n ≡ false
unfolding bad_size
good-size n l h = rw (ne_eqb n 0 (λ e. omega arith), le-ltb capacity n h) refl

-- the count of a set that a test makes is that of the ids that the test takes
counted : (n : ℕ) (p : ℕ → Bool) → 0 < n → n ≤ capacity → count_of (bitmap_where n p) ≡ Ok (count_where p n)
counted n p l h = rw (good-size n l h) (ap Ok (count_where-same (is_one (bitmap_where n p)) p n (λ i b. is_one-below n p i b)))

-- the second total is the size of the lease set
pub held-is-lease-set : HeldIsLeaseSet
unfolding lease_set pass_over total_row
held-is-lease-set m v =
    let f = record-fits m v in
    counted m.population (is_first (P.Leased m.now) m.me m.peers) (omega (arith, f.own)) f.few ∙ ap Ok (sym (leased_rows m))

-- the first total is the size of the grant set outside quiet time
pub grant-is-grant-set : GrantIsGrantSet
unfolding grant_set pass_over total_row
grant-is-grant-set m v quiet =
    let f = record-fits m v in
    rw quiet
    (counted m.population (is_first P.Granted m.me m.peers) (omega (arith, f.own)) f.few ∙ ap Ok (sym (granted_rows m)))

-- ---- the numbers have room

-- of a timer that is let through at most 3,000 s are left
left-timer : (now : Reading) (t : Timer) → timer_valid now t ≡ true → ms_left now t ≤ 3_000_000
left-timer now Unarmed e = omega arith
left-timer now (Armed d) e =
    let near : d.0 ≤ now.0 + farthest = leb-true d.0 (now.0 + farthest) (both (ltb now.0 d.0) (leb d.0 (now.0 + farthest)) e).1 in
    omega arith
left-timer now Exploded e = omega arith

-- of an unarmed one none
left-unarmed : (now : Reading) (t : Timer) → unarmed t ≡ true → ms_left now t ≤ 3_000_000
left-unarmed now Unarmed e = omega arith
left-unarmed now (Armed d) e = absurd cc
left-unarmed now Exploded e = omega arith

-- on the side of the sent timers
left-sent :
    (now : Reading) (guard : Option Timer) (promise : Option (Timer × Bool))
    → sent_guard_valid guard ≡ true → grant_valid now promise ≡ true → side_left now (side_timer guard (promise_timer promise)) ≤ 3_000_000
left-sent now guard (Some (t, revoking)) g p = left-timer now t p
left-sent now (Some t) None g p = left-unarmed now t g
left-sent now None None g p = omega arith

-- and of the held ones
left-held :
    (now : Reading) (guard promise : Option Timer)
    → entry_valid now guard ≡ true → entry_valid now promise ≡ true → side_left now (side_timer guard promise) ≤ 3_000_000
left-held now guard (Some t) g p = left-timer now t p
left-held now (Some t) None g p = left-timer now t g
left-held now None None g p = omega arith

-- a grant state is at most 3
grant-few : (guard : Option Timer) (promise : Option (Timer × Bool)) → grant_state guard promise ≤ 3
grant-few guard (Some (t, true)) = omega arith
grant-few guard (Some (t, false)) = omega arith
grant-few (Some t) None = omega arith
grant-few None None = omega arith

-- a held state is at most 2
held-few : (guard promise : Option Timer) → held_state guard promise ≤ 2
held-few guard (Some t) = omega arith
held-few (Some t) None = omega arith
held-few None None = omega arith

-- the ms left on both sides of a row whose timers are let through
left-row :
    (now : Reading) (row : Peer) → timers_valid now row ≡ true
    → (side_left now (side_timer row.guard_sent (promise_timer row.promise_sent)) ≤ 3_000_000)
    × (side_left now (side_timer row.guard_held row.promise_held) ≤ 3_000_000)
left-row now row v =
    let a = sent_guard_valid row.guard_sent in
    let b = grant_valid now row.promise_sent in
    let d = entry_valid now row.guard_held in
    let e = entry_valid now row.promise_held in
    let sent = fst-of (a && b) (d && e) v in
    let held = snd-of (a && b) (d && e) v in (
      left-sent now row.guard_sent row.promise_sent (fst-of a b sent) (snd-of a b sent),
      left-held now row.guard_held row.promise_held (fst-of d e held) (snd-of d e held),
    )

-- so that row has room
room-peer : (now : Reading) (id : ℕ) (row : Peer) → id ≤ capacity → row_valid now row ≡ true → RowHasRoom (peer_row now id row)
unfolding peer_row row_valid
room-peer now id row h v =
    let left = left-row now row (fst-of (timers_valid now row) (sides_valid row) v) in (
      omega arith,
      omega (arith, grant-few row.guard_sent row.promise_sent),
      omega (arith, left.0),
      omega (arith, held-few row.guard_held row.promise_held),
      omega (arith, left.1),
    )

-- the row of a peer below the population is let through
peer-valid : (own n i : ℕ) (now : Reading) (row : Peer) → row_valid_at own n now i row ≡ true → i < n → eqb i own ≡ false → row_valid now row ≡ true
unfolding row_valid_at
peer-valid own n i now row e l o = rw (lt-ltb i n l, o) at e

-- rows with room behind rows with room
room-both : (a b : List SheetRow) → AllHaveRoom a → AllHaveRoom b → AllHaveRoom (a ++ b)
room-both [] b s t = t
room-both (r ∷ a) b s t = (s.0, room-both a b s.1 t)

-- the rows of the peers have room
room-below : (m : Manager) → record_valid m ≡ true → (k : ℕ) → k ≤ m.population → AllHaveRoom (rows_below m k)
unfolding rows_below
room-below m v zero h = tt
room-below m v (suc k) h =
    room-both (rows_below m k) (cond (eqb k m.me) [] (peer_row m.now k (row_at m.peers k) ∷ [])) (room-below m v k (omega arith)) (go (eqb k m.me) refl)
  where
    go : (x : Bool) → eqb k m.me ≡ x → AllHaveRoom (cond x [] (peer_row m.now k (row_at m.peers k) ∷ []))
    go true e = tt
    go false e =
        let few = (record-fits m v).few in
        let row = row-of m.me m.population m.now m.peers capacity k (rows_of m v) (omega arith) in
        (room-peer m.now k (row_at m.peers k) (omega arith) (peer-valid m.me m.population k m.now (row_at m.peers k) row (omega arith) e), tt)

-- a count of ids below the population has room in three columns
few-counted : (m : Manager) (p : ℕ → Bool) (n : ℕ) → m.population ≤ capacity → n ≡ count_where p m.population → n ≤ 999
few-counted m p n h e = omega (arith, count_where-le p m.population)

-- the last row has room
room-total : (m : Manager) → record_valid m ≡ true → RowHasRoom (total_row m)
unfolding total_row pass_over
room-total m v =
    let few = (record-fits m v).few in (
      omega arith,
      few-counted m (is_first P.Granted m.me m.peers) _ few (granted_rows m),
      omega arith,
      few-counted m (is_first (P.Leased m.now) m.me m.peers) _ few (leased_rows m),
      omega arith,
    )

-- so every row has
pub rows-have-room : RowsHaveRoom
rows-have-room m v = room-both (rows_of_peers m) (total_row m ∷ []) (room-below m v m.population (omega arith)) (room-total m v, tt)

-- ---- what is written is read, and what is read is what is written

-- a row with room is read back from its columns
written-is-read : (r : SheetRow) → RowHasRoom r → row_read (row_columns r) ≡ Some r
unfolding row_read row_columns
written-is-read r h =
    five-written-is-read SheetRow sheet_row 3 2 7 2 7 r.id r.grant r.grant_left r.held r.held_left
    (omega arith, omega arith) (omega arith, omega arith) (omega arith, omega arith) (omega arith, omega arith) (omega arith, omega arith)

unbroken-row : (r : SheetRow) → Unbroken (row_columns r)
unfolding row_columns
unbroken-row r =
    unbroken-both _ _
    (unbroken-both _ _
    (unbroken-both _ _ (unbroken-both _ _ (unbroken-column 4 r.id) (unbroken-column 3 r.grant)) (unbroken-column 8 r.grant_left))
    (unbroken-column 3 r.held))
    (unbroken-column 8 r.held_left)

-- any rows, with their newlines
pub rows-written-are-read : RowsWrittenAreRead
unfolding rows_text row_text lines_read
rows-written-are-read [] all = refl
rows-written-are-read (r ∷ rs) all =
    rw (
      append_assoc (row_columns r) (10 ∷ []) (rows_text rs),
      line-ended (Option SheetRow) row_read None [] (row_columns r) (rows_text rs) (unbroken-row r),
      written-is-read r all.0,
      rows-written-are-read rs all.1,
    )
    refl

pub sheet-is-read : SheetIsRead
sheet-is-read m v = rows-written-are-read (sheet_rows m) (rows-have-room m v)

-- and a row that is read is what its numbers are written as
pub read-is-written : RowReadIsWritten
unfolding row_read row_columns
read-is-written line r e =
    let five = five-read-is-written SheetRow sheet_row 4 3 8 3 8 line r e in
    rw (← five.made) five.columns

-- ---- the length

-- a row for each peer and one for the totals
pub sheet-length : SheetLength
sheet-length m v =
    let f = record-fits m v in
    let parts : length (sheet_text m) ≡ row_bytes * m.population = rw (sheet_length m, length_row (total_row m)) (peers_length m f.own) in
    (parts, omega (arith, parts, f.few))

-- what stands before the rest is the text
pub printed-is-text : PrintedIsText
unfolding printed
printed-is-text text = take_at text (drop (length text) (replicate sheet_bytes 0)) (length text) refl
