-- Each clause is a claim that is proved in proofs/.
use Rattle.drift.proofs.Claims.{found-at-most, found-above-zero, clock-at-most, clock-above-zero}
use Rattle.drift.proofs.laws.answers_are_in_range.Goals as goal

pub returns-clause-found_at_most_hundredfold : goal.returns-clause-found_at_most_hundredfold
returns-clause-found_at_most_hundredfold c = found-at-most

pub returns-clause-found_above_zero : goal.returns-clause-found_above_zero
returns-clause-found_above_zero c = found-above-zero

pub returns-clause-clock_at_most_hundredfold : goal.returns-clause-clock_at_most_hundredfold
returns-clause-clock_at_most_hundredfold c = clock-at-most

pub returns-clause-clock_above_zero : goal.returns-clause-clock_above_zero
returns-clause-clock_above_zero c = clock-above-zero
