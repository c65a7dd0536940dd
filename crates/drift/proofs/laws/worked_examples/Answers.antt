-- Each clause is a claim that is proved in proofs/.
use Rattle.drift.proofs.Examples.{drift-line, ties, no-quotient}
use Rattle.drift.proofs.laws.worked_examples.Goals as goal

pub returns-clause-durations : goal.returns-clause-durations
returns-clause-durations c = drift-line

pub returns-clause-ties : goal.returns-clause-ties
returns-clause-ties c = ties

pub returns-clause-no_quotients : goal.returns-clause-no_quotients
returns-clause-no_quotients c = no-quotient
