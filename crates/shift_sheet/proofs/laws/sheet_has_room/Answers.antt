use Rattle.shift_sheet.proofs.Sheets.{sheet-length, printed-is-text}
use Rattle.shift_sheet.proofs.laws.sheet_has_room.Goals as goal

pub returns-clause-length : goal.returns-clause-length
returns-clause-length c = sheet-length

pub returns-clause-text : goal.returns-clause-text
returns-clause-text c = printed-is-text
