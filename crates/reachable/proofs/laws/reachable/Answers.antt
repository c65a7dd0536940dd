use Rattle.reachable.proofs.Reached.{lists-reach, reached-by-lists, reachable-valid, never-15, how-far}
use Rattle.reachable.proofs.laws.reachable.Goals as goal

pub returns-clause-lists_reach : goal.returns-clause-lists_reach
returns-clause-lists_reach c = lists-reach

pub returns-clause-reached_by_lists : goal.returns-clause-reached_by_lists
returns-clause-reached_by_lists c = reached-by-lists

pub returns-clause-valid : goal.returns-clause-valid
returns-clause-valid c = reachable-valid

pub returns-clause-never_refused_with_15 : goal.returns-clause-never_refused_with_15
returns-clause-never_refused_with_15 c = never-15

pub returns-clause-how_far_deadlines_reach : goal.returns-clause-how_far_deadlines_reach
returns-clause-how_far_deadlines_reach c = how-far
