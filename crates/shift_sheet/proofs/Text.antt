-- The text of a sheet's rows: how long it is, and how it is put together row by row. Assumes nothing.
use Prim.Native.Nat.{ℕ, ◌+◌, ◌*◌, ◌≤◌, ◌<◌}
use mathlib.Core.Path.{◌≡◌, refl}
use mathlib.Core.List.{List, [], ◌∷◌, ◌++◌, append-nil}
use native.Mathlib.Numerals.{add-one}
use native.Mathlib.Omega.{arith}
use borrow.Author.Tests.{eq-eqb, ne_eqb}
use lib.ListN.{length, length-append}
use Rattle.lease.specs.Bitmaps.{capacity}
use Rattle.std.specs.Prelude.{◌≢◌}
use Rattle.std.proofs.Common.{append_assoc}
use Rattle.card_text.specs.Columns.{places, column}
use Rattle.lease.specs.declared.Manager.{Manager}
use Rattle.lease.specs.Rows.{row_at}
use Rattle.shift_sheet.specs.declared.rows.SheetRow.{SheetRow}
use Rattle.shift_sheet.specs.Sheet.{peer_row, rows_below, rows_of_peers, total_row, row_columns, row_text, rows_text, sheet_bytes, sheet_text}
use Rattle.shift_sheet.proofs.Totals.{rows_length, rows_count}

-- ---- one row

-- without its newline
pub length-columns : (r : SheetRow) → length (row_columns r) ≡ 26
unfolding row_columns column places
length-columns r = refl

-- with it
pub length_row : (r : SheetRow) → length (row_text r) ≡ 27
unfolding row_text row_columns column places
length_row r = refl

-- ---- rows

-- 27 bytes each
pub length_rows : (rs : List SheetRow) → length (rows_text rs) ≡ 27 * length rs
unfolding rows_text
length_rows [] = refl
length_rows (r ∷ rs) = rw (length-append (row_text r) (rows_text rs), length_row r, length_rows rs) (omega arith)

-- the text of rows behind rows is text behind text
pub text_of_both : (a b : List SheetRow) → rows_text (a ++ b) ≡ rows_text a ++ rows_text b
unfolding rows_text
text_of_both [] b = refl
text_of_both (r ∷ a) b = rw (text_of_both a b, append_assoc (row_text r) (rows_text a) (rows_text b))

-- the text of one row is that row's
pub text_of_one : (r : SheetRow) → rows_text (r ∷ []) ≡ row_text r
unfolding rows_text
text_of_one r = append-nil (row_text r)

-- ---- the rows of the ids below i, and of one id more

-- the own id has no row
pub own_skipped : (m : Manager) (i : ℕ) → i ≡ m.me → rows_below m (i + 1) ≡ rows_below m i
unfolding rows_below
own_skipped m i e = rw (add-one i, eq-eqb i m.me e) (append-nil (rows_below m i))

-- any other has one
pub row_more : (m : Manager) (i : ℕ) → i ≢ m.me → rows_text (rows_below m (i + 1)) ≡ rows_text (rows_below m i) ++ row_text (peer_row m.now i (row_at m.peers i))
unfolding rows_below
row_more m i e =
    let r = peer_row m.now i (row_at m.peers i) in
    rw (add-one i, ne_eqb i m.me e, text_of_both (rows_below m i) (r ∷ []), text_of_one r) refl

-- the text of the ids below i
pub below_length : (m : Manager) (i : ℕ) → length (rows_text (rows_below m i)) ≤ 27 * i
below_length m i = rw (length_rows (rows_below m i)) (omega (arith, rows_length m i))

-- and of all peers
pub peers_length : (m : Manager) → m.me < m.population → length (rows_text (rows_of_peers m)) + 27 ≡ 27 * m.population
peers_length m h = rw (length_rows (rows_of_peers m)) (omega (arith, rows_count m m.population h))

-- ---- the sheet: the peers' rows, and the last one behind them
pub sheet_parts : (m : Manager) → sheet_text m ≡ rows_text (rows_of_peers m) ++ row_text (total_row m)
sheet_parts m = rw (text_of_both (rows_of_peers m) (total_row m ∷ []), text_of_one (total_row m)) refl

pub sheet_length : (m : Manager) → length (sheet_text m) ≡ length (rows_text (rows_of_peers m)) + length (row_text (total_row m))
sheet_length m = rw (sheet_parts m, length-append (rows_text (rows_of_peers m)) (row_text (total_row m))) refl

-- a sheet has room in its bytes
pub sheet_room : (m : Manager) → m.me < m.population → m.population ≤ capacity → length (sheet_text m) ≤ sheet_bytes
sheet_room m h k = rw (sheet_length m, length_row (total_row m)) (omega (arith, peers_length m h))
