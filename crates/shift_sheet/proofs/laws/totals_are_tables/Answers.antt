use Rattle.shift_sheet.proofs.Sheets.{totals-are-tables, held-is-lease-set, grant-is-grant-set}
use Rattle.shift_sheet.proofs.laws.totals_are_tables.Goals as goal

pub returns-clause-tables : goal.returns-clause-tables
returns-clause-tables c = totals-are-tables

pub returns-clause-lease_set : goal.returns-clause-lease_set
returns-clause-lease_set c = held-is-lease-set

pub returns-clause-grant_set : goal.returns-clause-grant_set
returns-clause-grant_set c = grant-is-grant-set
