use Rattle.lease_log.proofs.LogTheorem.{log-theorem}
use Rattle.call_history.proofs.Laws.{program_log_theorem}
use Rattle.call_history.proofs.log_decides.Goals as goal

pub returns-clause-rules : goal.returns-clause-rules
returns-clause-rules c = log-theorem

pub returns-clause-program : goal.returns-clause-program
returns-clause-program c = program_log_theorem
