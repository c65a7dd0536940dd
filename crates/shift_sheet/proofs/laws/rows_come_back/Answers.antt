use Rattle.shift_sheet.proofs.Sheets.{rows-have-room, rows-written-are-read, sheet-is-read, read-is-written}
use Rattle.shift_sheet.proofs.laws.rows_come_back.Goals as goal

pub returns-clause-room : goal.returns-clause-room
returns-clause-room c = rows-have-room

pub returns-clause-written_are_read : goal.returns-clause-written_are_read
returns-clause-written_are_read c = rows-written-are-read

pub returns-clause-sheet_is_read : goal.returns-clause-sheet_is_read
returns-clause-sheet_is_read c = sheet-is-read

pub returns-clause-read_is_written : goal.returns-clause-read_is_written
returns-clause-read_is_written c = read-is-written
