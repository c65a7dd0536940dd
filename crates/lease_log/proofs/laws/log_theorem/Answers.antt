use Rattle.lease_log.proofs.LogTheorem.{log-theorem}
use Rattle.lease_log.proofs.Program.{log-theorem-of-ruled}
use Rattle.lease_log.proofs.Counts.{counts}
use Rattle.lease_log.proofs.laws.log_theorem.Goals as goal

pub returns-clause-rules : goal.returns-clause-rules
returns-clause-rules c = log-theorem

pub returns-clause-any_that_obeys : goal.returns-clause-any_that_obeys
returns-clause-any_that_obeys c = log-theorem-of-ruled

pub returns-clause-counts : goal.returns-clause-counts
returns-clause-counts c = counts
