use Rattle.lease.proofs.Left.{none_left, zero_left, left-leased}
use Rattle.lease.proofs.laws.time_left_is_exact.Goals as goal

pub returns-clause-none_without_promise : goal.returns-clause-none_without_promise
returns-clause-none_without_promise c = none_left

pub returns-clause-zero_when_over : goal.returns-clause-zero_when_over
returns-clause-zero_when_over c = zero_left

pub returns-clause-some_in_lease_set : goal.returns-clause-some_in_lease_set
returns-clause-some_in_lease_set c = left-leased
