use Rattle.lease_log.proofs.WrongManagers.{obeying-meets, untouched-fails, replies-false-fails, replies-false-breaks, fakes-later-fails, invents-count-fails}
use Rattle.lease_log.proofs.laws.wrong_managers.Goals as goal

pub returns-clause-obeying_meets_it : goal.returns-clause-obeying_meets_it
returns-clause-obeying_meets_it c = obeying-meets

pub returns-clause-untouched_fails : goal.returns-clause-untouched_fails
returns-clause-untouched_fails c = untouched-fails

pub returns-clause-replies_false_fails : goal.returns-clause-replies_false_fails
returns-clause-replies_false_fails c = replies-false-fails

pub returns-clause-replies_false_breaks_the_rules : goal.returns-clause-replies_false_breaks_the_rules
returns-clause-replies_false_breaks_the_rules c = replies-false-breaks

pub returns-clause-fakes_later_fails : goal.returns-clause-fakes_later_fails
returns-clause-fakes_later_fails c = fakes-later-fails

pub returns-clause-invents_count_fails : goal.returns-clause-invents_count_fails
returns-clause-invents_count_fails c = invents-count-fails
