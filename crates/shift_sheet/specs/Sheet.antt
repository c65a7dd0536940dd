-- The shift sheet (section 15): its rows, of the rules' record, and how they are printed. Definitions only.
use Rattle.std.specs.Prelude.{ℕ, zero, suc, ◌+◌, ◌*◌, Bool, true, false, cond, List, [], ◌∷◌, ◌++◌, length, replicate, eqb, ltb, Option, None, Some, Result, Ok, Err}
use Rattle.lease.specs.Sets.{one}
use Rattle.lease.specs.Bitmaps.{capacity}
use Rattle.lease.specs.Types.{Reading, Timer}
use Rattle.lease.specs.Timers.{ms_left}
use Rattle.lease.specs.declared.Peer.{Peer}
use Rattle.lease.specs.declared.Manager.{Manager}
use Rattle.lease.specs.declared.Refusal.{Refusal}
use Rattle.lease.specs.Rows.{row_at, promise_timer}
use Rattle.lease.specs.RecordCheck.{record_valid}
use Rattle.lease.specs.Refusals.{judged}
use Rattle.card_text.specs.FiveColumns.{five_columns, five_read}
use Rattle.card_text.specs.Text.{lines_read}
use Rattle.card_text.specs.Lines.{laid}
use Rattle.card_stream.specs.declared.session.Session.{Session}
use Rattle.shift_sheet.specs.declared.rows.SheetRow.{SheetRow}
use Rattle.shift_sheet.specs.declared.rows.Sheet.{Sheet}

-- The row of five numbers, in the order of their columns.
abbrev pub sheet_row : ℕ → ℕ → ℕ → ℕ → ℕ → SheetRow
sheet_row id grant grant_left held held_left = record { id = id; grant = grant; grant_left = grant_left; held = held; held_left = held_left }

-- ---- one peer

-- Grant state: 0 none, 1 guard, 2 promise, 3 promise being revoked.
abbrev pub grant_state : Option Timer → Option (Timer × Bool) → ℕ
grant_state guard (Some (t, true)) = 3
grant_state guard (Some (t, false)) = 2
grant_state (Some t) None = 1
grant_state None None = 0

-- Held state: 0, 1, 2 likewise.
abbrev pub held_state : Option Timer → Option Timer → ℕ
held_state guard (Some t) = 2
held_state (Some t) None = 1
held_state None None = 0

-- The timer of one side: of its promise if there is one, else of its guard.
abbrev pub side_timer : Option Timer → Option Timer → Option Timer
side_timer guard (Some t) = Some t
side_timer guard None = guard

-- Ms left round up, and are 0 for an unarmed or exploded timer or none (rule 4.6).
abbrev pub side_left : Reading → Option Timer → ℕ
side_left now None = 0
side_left now (Some t) = ms_left now t

unfoldable pub peer_row : Reading → ℕ → Peer → SheetRow
peer_row now id row =
    sheet_row id
    (grant_state row.guard_sent row.promise_sent) (side_left now (side_timer row.guard_sent (promise_timer row.promise_sent)))
    (held_state row.guard_held row.promise_held) (side_left now (side_timer row.guard_held row.promise_held))

-- ---- the rows (rule 15.1) and their totals (rule 15.2)

-- A row for each peer by id, own id left out: those of the ids below k.
unfoldable pub rows_below : Manager → ℕ → List SheetRow
rows_below m zero = []
rows_below m (suc k) = rows_below m k ++ cond (eqb k m.me) [] (peer_row m.now k (row_at m.peers k) ∷ [])

abbrev pub rows_of_peers : Manager → List SheetRow
rows_of_peers m = rows_below m m.population

-- Grant states 2 and 3.
abbrev pub is_granted_row : SheetRow → Bool
is_granted_row r = cond (eqb r.grant 2) true (eqb r.grant 3)

-- Active held promises: state 2, ms above 0.
abbrev pub is_leased_row : SheetRow → Bool
is_leased_row r = cond (eqb r.held 2) (ltb 0 r.held_left) false

unfoldable pub count_rows : (SheetRow → Bool) → List SheetRow → ℕ
count_rows p [] = 0
count_rows p (r ∷ rs) = one (p r) + count_rows p rs

-- The last row, in the same fields: population, number of grant states 2 and 3, 0, number of active held promises, 0.
abbrev pub totals : ℕ → ℕ → ℕ → SheetRow
totals population grants leases = sheet_row population grants 0 leases 0

unfoldable pub total_row : Manager → SheetRow
total_row m = totals m.population (count_rows is_granted_row (rows_of_peers m)) (count_rows is_leased_row (rows_of_peers m))

abbrev pub sheet_rows : Manager → List SheetRow
sheet_rows m = rows_of_peers m ++ (total_row m ∷ [])

-- ---- as bytes

-- id (4 columns), grant state (3), grant ms left (8), held state (3), held ms left (8).
unfoldable pub row_columns : SheetRow → List ℕ
row_columns r = five_columns 4 3 8 3 8 r.id r.grant r.grant_left r.held r.held_left

-- With a newline.
unfoldable pub row_text : SheetRow → List ℕ
row_text r = row_columns r ++ (10 ∷ [])

unfoldable pub rows_text : List SheetRow → List ℕ
rows_text [] = []
rows_text (r ∷ rs) = row_text r ++ rows_text rs

abbrev pub sheet_text : Manager → List ℕ
sheet_text m = rows_text (sheet_rows m)

-- ---- reading rows back

-- A row without its newline, read back: a number in each of its columns.
unfoldable pub row_read : List ℕ → Option SheetRow
row_read line = five_read sheet_row 4 3 8 3 8 line

-- The rows of a text, none for each that is not of the form or has no newline.
abbrev pub rows_in : List ℕ → List (Option SheetRow)
rows_in text = lines_read row_read None [] text

-- ---- what the call answers

-- A row with its newline, and a sheet of as many rows as there are ids.
abbrev pub row_bytes : ℕ
row_bytes = 27

abbrev pub sheet_bytes : ℕ
sheet_bytes = row_bytes * capacity

-- A text in the bytes of a sheet; 0 behind it.
unfoldable pub printed : List ℕ → Sheet
printed text = record { length = length text; bytes = laid text (replicate sheet_bytes 0) }

-- Without an accepted set-up the sheet is empty; a record is looked at first.
unfoldable pub sheet_on : Option Manager → Result Sheet Refusal
sheet_on None = Ok (printed [])
sheet_on (Some m) = judged (record_valid m) (Ok tt) (λ k. Err k) (Ok (printed (sheet_text m)))

abbrev pub sheet_of : Session → Result Sheet Refusal
sheet_of s = sheet_on s.manager
