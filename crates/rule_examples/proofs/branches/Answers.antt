use Rattle.rule_examples.proofs.Lists.{held-branches, sent-branches, number-branches, wrong-records, right-records}
use Rattle.rule_examples.proofs.branches.Goals as goal

pub returns-clause-held_side : goal.returns-clause-held_side
returns-clause-held_side c = held-branches

pub returns-clause-sent_side : goal.returns-clause-sent_side
returns-clause-sent_side c = sent-branches

pub returns-clause-numbers_and_quiet_time : goal.returns-clause-numbers_and_quiet_time
returns-clause-numbers_and_quiet_time c = number-branches

pub returns-clause-wrong_records : goal.returns-clause-wrong_records
returns-clause-wrong_records c = wrong-records

pub returns-clause-right_records : goal.returns-clause-right_records
returns-clause-right_records c = right-records
