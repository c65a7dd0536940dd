-- Each clause is a claim that is proved in proofs/.
use Rattle.drift.proofs.Claims.{strict-bound, at_most, above_zero, exact-at-one}
use Rattle.drift.proofs.laws.answers_meet_bound.Goals as goal

pub returns-clause-less_than_rate : goal.returns-clause-less_than_rate
returns-clause-less_than_rate c = strict-bound

pub returns-clause-at_most_hundredfold : goal.returns-clause-at_most_hundredfold
returns-clause-at_most_hundredfold c = at_most

pub returns-clause-above_zero : goal.returns-clause-above_zero
returns-clause-above_zero c = above_zero

pub returns-clause-exact_at_rate_1 : goal.returns-clause-exact_at_rate_1
returns-clause-exact_at_rate_1 c = exact-at-one
