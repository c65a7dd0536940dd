-- The sheet is the definition's, so the log says what it is.
use Rattle.shift_sheet.proofs.BesideLog.{printed-by-log}
use Rattle.shift_sheet.proofs.rows.sheet_of.Goals as goal

pub returns-clause-beside_log : goal.returns-clause-beside_log
returns-clause-beside_log c = printed-by-log c.sheet_on.result c.args.session.now c.sheet_on.ensures.value
