use Rattle.lease.proofs.RuleClaims.{refused-calls-keep, refused-set-up}
use Rattle.lease.proofs.laws.refusals_change_nothing.Goals as goal

pub returns-clause-calls_keep_the_record : goal.returns-clause-calls_keep_the_record
returns-clause-calls_keep_the_record c = refused-calls-keep

pub returns-clause-set_up_gives_no_manager : goal.returns-clause-set_up_gives_no_manager
returns-clause-set_up_gives_no_manager c = refused-set-up
