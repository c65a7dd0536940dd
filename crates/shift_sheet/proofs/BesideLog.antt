-- The sheet beside the log (rule 15.3): the log's counts are the passes', the passes' are the sheet's; and the session that the cards leave
-- has the record of the rules' run. Assumes nothing.
use Rattle.std.specs.Prelude.{Option, None, Some, Result, Ok}
use Rattle.lease.specs.declared.Refusal.{Refusal}
use Rattle.shift_sheet.specs.declared.rows.Sheet.{Sheet}
use Prim.Native.Nat.{ℕ, ◌+◌}
use mathlib.Core.Path.{◌≡◌, refl, ap, sym, ◌∙◌}
use mathlib.Core.Bool.{true, false}
use mathlib.Core.List.{List, [], ◌∷◌, ◌++◌}
use Rattle.lease.specs.declared.Manager.{Manager}
use Rattle.lease.specs.RecordCheck.{record_valid}
use Rattle.lease_log.specs.Log.{Journal, Run, never, quiet_since, quiet_time, ended_lines}
use Rattle.lease_log.specs.LogTheorem.{LogDecides, run_of}
use Rattle.lease_log.specs.Counts.{LogCounts}
use Rattle.lease_log.proofs.LogTheorem.{log-theorem}
use Rattle.lease_log.proofs.Counts.{counts}
use Rattle.card_stream.specs.declared.session.Session.{Session}
use Rattle.card_stream.specs.Sessions.{blank_session, counted}
use Rattle.card_stream.proofs.Sessions.{refused-keeps}
use Rattle.card_text.specs.Cards.{cards_in}
use Rattle.card_stream.specs.Reader.{session_of}
use Rattle.shift_sheet.specs.declared.rows.SheetRow.{SheetRow}
use Rattle.shift_sheet.specs.Sheet.{rows_of_peers, total_row, rows_text, printed, sheet_on, sheet_of}
use Rattle.shift_sheet.proofs.Totals.{granted_rows, leased_rows}
use Rattle.shift_sheet.proofs.Sheets.{held-is-lease-set, grant-is-grant-set}
use Rattle.shift_sheet.specs.CardCalls.{CardCalls, calls_of, run_of_cards}
use Rattle.shift_sheet.specs.Claims.{totals_by, LogTotals, TotalsByLog, PrintedByLog, RefusedSkipped}
use Rattle.shift_sheet.proofs.CardCalls.{manager_of, cards-same, AllSound, cards-sound}

-- ---- the rules

module _ (me n t : ℕ) (r : Run) (d : LogDecides me n t r.manager r.journal) (c : LogCounts n t r.manager r.journal) where
  -- what the log counts makes the last row
  row-by_log : total_row r.manager ≡ totals_by n t r.journal
  unfolding total_row
  row-by_log = rw (granted_rows r.manager, leased_rows r.manager, c.promises-sent, c.promises-held, c.population)

  -- and with what it decides, all that is claimed of the last row
  totals-are : LogTotals n t r
  totals-are = record {
    valid = d.never-15;
    last_row = row-by_log;
    promises = d.promises ∙ ap (λ row. ended_lines r.journal.log + row.grant) (sym row-by_log);
    leases = held-is-lease-set r.manager d.never-15;
    grants = λ q. grant-is-grant-set r.manager d.never-15 (c.same-quiet ∙ q);
  }

pub totals-by-log : TotalsByLog
totals-by-log me n t hb now h calls f =
    totals-are me n t (run_of me n t hb now calls) (log-theorem me n t hb now h calls f) (counts me n t hb now h calls f)

-- ---- the program

-- before a quiet start it is never quiet time
never-quiet : (t : ℕ) (j : Journal) → j.quiet ≡ never → quiet_time t j ≡ false
never-quiet t j e = ap (λ q. quiet_since t j.now q) e

-- of a record that is not refused the sheet is printed, with the last row as it is known to be
printed_of : (m : Manager) (row : SheetRow) → record_valid m ≡ true → total_row m ≡ row
    → sheet_on (Some m) ≡ Ok (printed (rows_text (rows_of_peers m ++ (row ∷ []))))
unfolding sheet_on
printed_of m row v e = rw (v, e)

-- so a session whose record is that of the cards' calls prints what is claimed
printed-for : (input : List ℕ) (x : Option CardCalls) → (session_of input).manager ≡ manager_of x → AllSound x → PrintedByLog (sheet_of (session_of input)) x
unfolding sheet_on
printed-for input None e k = ap sheet_on e
printed-for input (Some x) e k =
    let u = x.set_up in
    let all = totals-by-log u.me u.population u.expire_timeout u.heartbeat u.now k.accepted x.calls k.typed in (
      ap sheet_on e ∙ printed_of (run_of_cards x).manager _ all.valid all.last_row,
      all,
      never-quiet u.expire_timeout (run_of_cards x).journal k.no_quiet,
    )

-- the sheet of a session that an input has led to
pub printed-by-log : (sheet : Result Sheet Refusal) (s : Session) → sheet ≡ sheet_of s → (input : List ℕ) → s ≡ session_of input → PrintedByLog sheet (calls_of input)
unfolding blank_session
printed-by-log sheet s e input f = rw (e, f) (printed-for input (calls_of input) (cards-same (cards_in input) blank_session None refl) (cards-sound (cards_in input) None tt))

-- a card more in the count is none in the sheet
pub refused-skipped : RefusedSkipped
unfolding counted
refused-skipped s c k e = ap (λ (x : Session). sheet_on x.manager) (refused-keeps s c k e)
