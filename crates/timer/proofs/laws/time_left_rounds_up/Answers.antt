-- Each clause is a claim that is proved in proofs/.
use Rattle.timer.proofs.Claims.{zero-when-over, left-rounded-up, left-examples}
use Rattle.timer.proofs.laws.time_left_rounds_up.Goals as goal

pub returns-clause-zero_when_over : goal.returns-clause-zero_when_over
returns-clause-zero_when_over c = zero-when-over

pub returns-clause-rounded_up : goal.returns-clause-rounded_up
returns-clause-rounded_up c = left-rounded-up

pub returns-clause-worked_examples : goal.returns-clause-worked_examples
returns-clause-worked_examples c = left-examples
