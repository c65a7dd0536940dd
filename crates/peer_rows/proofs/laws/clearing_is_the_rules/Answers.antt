use Rattle.peer_rows.proofs.ClearingClaims.{says_all, rules_clear, only_rules, raised, all_cleared}
use Rattle.peer_rows.proofs.laws.clearing_is_the_rules.Goals as goal

pub returns-clause-one_outcome : goal.returns-clause-one_outcome
returns-clause-one_outcome c = says_all

pub returns-clause-pass_clears : goal.returns-clause-pass_clears
returns-clause-pass_clears c = rules_clear

pub returns-clause-pass_alone_clears : goal.returns-clause-pass_alone_clears
returns-clause-pass_alone_clears c = only_rules

pub returns-clause-raised_is_cleared : goal.returns-clause-raised_is_cleared
returns-clause-raised_is_cleared c = raised

pub returns-clause-no_entry_left : goal.returns-clause-no_entry_left
returns-clause-no_entry_left c = all_cleared
