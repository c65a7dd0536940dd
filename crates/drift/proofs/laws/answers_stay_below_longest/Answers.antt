-- Each clause is a claim that is proved in proofs/.
use Rattle.drift.proofs.Claims.{drifted-le, clock_le}
use Rattle.drift.proofs.laws.answers_stay_below_longest.Goals as goal

pub returns-clause-of_quotients : goal.returns-clause-of_quotients
returns-clause-of_quotients c = drifted-le

pub returns-clause-of_clocks : goal.returns-clause-of_clocks
returns-clause-of_clocks c = clock_le
