use Rattle.shift_sheet.proofs.BesideLog.{totals-by-log}
use Rattle.shift_sheet.proofs.laws.totals_by_log.Goals as goal

pub returns : goal.returns
returns c = totals-by-log
