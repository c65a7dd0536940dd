-- Each clause is a claim that is proved in proofs/.
use Rattle.timer.proofs.Claims.{fired-inactive, expired-active, fired-once, expired-again}
use Rattle.timer.proofs.laws.timers_fire_once.Goals as goal

pub returns-clause-fired_inactive : goal.returns-clause-fired_inactive
returns-clause-fired_inactive c = fired-inactive

pub returns-clause-expired_active : goal.returns-clause-expired_active
returns-clause-expired_active c = expired-active

pub returns-clause-fired_once : goal.returns-clause-fired_once
returns-clause-fired_once c = fired-once

pub returns-clause-expired_again : goal.returns-clause-expired_again
returns-clause-expired_again c = expired-again
