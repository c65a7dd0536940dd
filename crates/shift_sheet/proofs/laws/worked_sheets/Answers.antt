use Rattle.shift_sheet.proofs.Examples.{small-sites, quiet-and-drift}
use Rattle.shift_sheet.proofs.laws.worked_sheets.Goals as goal

pub returns-clause-small_sites : goal.returns-clause-small_sites
returns-clause-small_sites c = small-sites

pub returns-clause-quiet_and_drift : goal.returns-clause-quiet_and_drift
returns-clause-quiet_and_drift c = quiet-and-drift
