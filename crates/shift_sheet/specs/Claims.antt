-- What is claimed of the shift sheet: its totals, its text, and both beside the log (section 15). Each claim is a clause of a function of
-- src/laws.rt, and what is printed one of `sheet_of`. Statements only.
use Rattle.std.specs.Prelude.{ℕ, ◌*◌, ◌≤◌, ◌≡◌, true, false, List, [], ◌∷◌, length, map, take, Some, Ok, ◌+◌, ◌++◌, Option, None, Result, Err}
use Rattle.lease.specs.Operations.{count_of}
use Rattle.lease.specs.declared.Manager.{Manager}
use Rattle.lease.specs.Pass as P
use Rattle.lease.specs.Notices.{pass_on}
use Rattle.lease.specs.Calls.{is_quiet, grant_set, lease_set}
use Rattle.lease.specs.RecordCheck.{record_valid}
use Rattle.shift_sheet.specs.declared.rows.SheetRow.{SheetRow}
use Rattle.shift_sheet.specs.declared.rows.Sheet.{Sheet}
use Rattle.lease.specs.declared.Refusal.{Refusal}
use Rattle.shift_sheet.specs.Sheet.{total_row, sheet_rows, row_columns, row_read, rows_in, row_bytes, sheet_bytes, sheet_text, printed, totals, rows_of_peers, rows_text, sheet_of}
use Rattle.lease.specs.Sets.{count_where}
use Rattle.lease.specs.Types.{Reading}
use Rattle.lease.specs.SetUp.{setup_of}
use Rattle.lease.specs.Verdicts.{Call}
use Rattle.lease_log.specs.Log.{Journal, Run, promise_lines, ended_lines, is_open, quiet_time, is_leased}
use Rattle.lease_log.specs.LogTheorem.{AllTyped, run_of}
use Rattle.wire.specs.declared.events.CardRefusal.{CardRefusal}
use Rattle.wire.specs.declared.events.Event.{Event}
use Rattle.card_stream.specs.declared.session.Session.{Session}
use Rattle.card_stream.specs.Sessions.{card_given}
use Rattle.shift_sheet.specs.CardCalls.{CardCalls, run_of_cards}

-- ---- the totals

-- They are counts of the rows by their definition. The tables say the same: how many promises are sent, and how many that are held are
-- active.
abbrev pub TotalsAreTables : Type 0
TotalsAreTables = (m : Manager) → ((total_row m).grant ≡ (pass_on m P.Granted).count) × ((total_row m).held ≡ (pass_on m (P.Leased m.now)).count)

-- The second is the size of the lease set, in quiet time too.
abbrev pub HeldIsLeaseSet : Type 0
HeldIsLeaseSet = (m : Manager) → record_valid m ≡ true → count_of (lease_set m) ≡ Ok (total_row m).held

-- The first is the size of the grant set outside quiet time.
abbrev pub GrantIsGrantSet : Type 0
GrantIsGrantSet = (m : Manager) → record_valid m ≡ true → is_quiet m.now m.quiet_timer ≡ false → count_of (grant_set m) ≡ Ok (total_row m).grant

-- ---- the columns

-- The numbers have room in their columns.
abbrev pub RowHasRoom : SheetRow → Type 0
RowHasRoom r = (r.id ≤ 9999) × (r.grant ≤ 999) × (r.grant_left ≤ 99_999_999) × (r.held ≤ 999) × (r.held_left ≤ 99_999_999)

abbrev pub AllHaveRoom : List SheetRow → Type 0
AllHaveRoom [] = Unit {0}
AllHaveRoom (r ∷ rs) = RowHasRoom r × AllHaveRoom rs

-- Of a record that is not refused every row has room.
abbrev pub RowsHaveRoom : Type 0
RowsHaveRoom = (m : Manager) → record_valid m ≡ true → AllHaveRoom (sheet_rows m)

-- Any rows with room, written one after the other, newlines included, are read as exactly those rows, in their order.
abbrev pub RowsWrittenAreRead : Type 0
RowsWrittenAreRead = (rs : List SheetRow) → AllHaveRoom rs → rows_in (rows_text rs) ≡ map Some rs

-- So what is printed of a record that is not refused is read back as its sheet.
abbrev pub SheetIsRead : Type 0
SheetIsRead = (m : Manager) → record_valid m ≡ true → rows_in (sheet_text m) ≡ map Some (sheet_rows m)

-- What is read is what the row is written as.
abbrev pub RowReadIsWritten : Type 0
RowReadIsWritten = (line : List ℕ) (r : SheetRow) → row_read line ≡ Some r → row_columns r ≡ line

-- A sheet has a row for each peer and one for the totals, and has room in the bytes that are printed.
abbrev pub SheetLength : Type 0
SheetLength = (m : Manager) → record_valid m ≡ true → (length (sheet_text m) ≡ row_bytes * m.population) × (length (sheet_text m) ≤ sheet_bytes)

-- The bytes that are printed, as many as the length says, are the text.
abbrev pub PrintedIsText : Type 0
PrintedIsText = (text : List ℕ) → take (printed text).length (printed text).bytes ≡ text

-- ---- beside the log (rule 15.3)

-- The last row as the log has it, of a manager with population n and T = t: the peers with a Promise line that is not ended, and the peers
-- that the held side counts in.
abbrev pub totals_by : ℕ → ℕ → Journal → SheetRow
totals_by n t j = totals n (count_where (is_open j.log) n) (count_where (is_leased t j) n)

-- After any list of calls from an accepted set-up, quiet starts and drift settings included, the sheet's last row is the log's. The
-- Promise lines that are not ended are as many as the first total; the second is the size of the lease set, and the first outside quiet time
-- that of the grant set.
pub record LogTotals (n t : ℕ) (r : Run) : Type 0 where
  pub valid : record_valid r.manager ≡ true
  pub last_row : total_row r.manager ≡ totals_by n t r.journal
  pub promises : promise_lines r.journal.log ≡ ended_lines r.journal.log + (total_row r.manager).grant
  pub leases : count_of (lease_set r.manager) ≡ Ok (total_row r.manager).held
  pub grants : quiet_time t r.journal ≡ false → count_of (grant_set r.manager) ≡ Ok (total_row r.manager).grant

abbrev pub TotalsByLog : Type 0
TotalsByLog =
    (me n t heartbeat : ℕ) (now : Reading) → (setup_of me n t heartbeat now).outcome ≡ (Ok tt) → (calls : List Call) → AllTyped calls
    → LogTotals n t (run_of me n t heartbeat now calls)

-- What the sheet is of a session to which cards have led that say those calls: empty without an accepted set-up; else the rows of the record
-- that the rules' run over the calls has come to, and the totals of its log. It is never refused, and no card starts quiet time.
abbrev pub PrintedByLog : Result Sheet Refusal → Option CardCalls → Type 0
PrintedByLog sheet None = sheet ≡ Ok (printed [])
PrintedByLog sheet (Some x) =
    let r = run_of_cards x in
    let u = x.set_up in
    (sheet ≡ Ok (printed (rows_text (rows_of_peers r.manager ++ (totals_by u.population u.expire_timeout r.journal ∷ [])))))
    × LogTotals u.population u.expire_timeout r
    × (quiet_time u.expire_timeout r.journal ≡ false)

-- A refused card is skipped: the sheet is as it was.
abbrev pub RefusedSkipped : Type 0
RefusedSkipped =
    (s : Session) (c : Result Event CardRefusal) (k : CardRefusal) → (card_given s c).outcome ≡ Err k → sheet_of (card_given s c).session ≡ sheet_of s
