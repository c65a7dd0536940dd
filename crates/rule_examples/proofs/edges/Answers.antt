use Rattle.rule_examples.proofs.Lists.{far-reached, far-accepted, beyond-refused, call-refusals, set-up-refusals}
use Rattle.rule_examples.proofs.edges.Goals as goal

pub returns-clause-deadline_reached : goal.returns-clause-deadline_reached
returns-clause-deadline_reached c = far-reached

pub returns-clause-deadline_accepted : goal.returns-clause-deadline_accepted
returns-clause-deadline_accepted c = far-accepted

pub returns-clause-later_deadline_refused : goal.returns-clause-later_deadline_refused
returns-clause-later_deadline_refused c = beyond-refused

pub returns-clause-call_refusals : goal.returns-clause-call_refusals
returns-clause-call_refusals c = call-refusals

pub returns-clause-set_up_refusals : goal.returns-clause-set_up_refusals
returns-clause-set_up_refusals c = set-up-refusals
