use Rattle.lease.proofs.Fired.{listed-once, listed-in-order, listed-count, fired-once, fired-room, fired-listed, fired-due}
use Rattle.lease.proofs.laws.fired_list_is_exact.Goals as goal

pub returns-clause-each_of_the_sets_once : goal.returns-clause-each_of_the_sets_once
returns-clause-each_of_the_sets_once c = listed-once

pub returns-clause-in_firing_order : goal.returns-clause-in_firing_order
returns-clause-in_firing_order c = listed-in-order

pub returns-clause-as_many_as_ids : goal.returns-clause-as_many_as_ids
returns-clause-as_many_as_ids c = listed-count

pub returns-clause-each_that_fires_once : goal.returns-clause-each_that_fires_once
returns-clause-each_that_fires_once c = fired-once

pub returns-clause-has_room : goal.returns-clause-has_room
returns-clause-has_room c = fired-room

pub returns-clause-answered_by_advance : goal.returns-clause-answered_by_advance
returns-clause-answered_by_advance c = fired-listed

pub returns-clause-just_due : goal.returns-clause-just_due
returns-clause-just_due c = fired-due
