-- Each clause is a claim that is proved in proofs/.
use Rattle.drift.proofs.Claims.{found-setting, setting-found}
use Rattle.drift.proofs.laws.quotients_are_of_settings.Goals as goal

pub returns-clause-of_a_setting : goal.returns-clause-of_a_setting
returns-clause-of_a_setting c = found-setting

pub returns-clause-of_each_setting : goal.returns-clause-of_each_setting
returns-clause-of_each_setting c = setting-found
