-- Each clause is a claim that is proved in proofs/.
use Rattle.timer.proofs.Claims.{kicked-off-active, kicked-off-near, extended-active}
use Rattle.timer.proofs.laws.armed_timers_are_active.Goals as goal

pub returns-clause-kicked_off_active : goal.returns-clause-kicked_off_active
returns-clause-kicked_off_active c = kicked-off-active

pub returns-clause-kicked_off_near : goal.returns-clause-kicked_off_near
returns-clause-kicked_off_near c = kicked-off-near

pub returns-clause-extended_active : goal.returns-clause-extended_active
returns-clause-extended_active c = extended-active
