-- What is kicked off is what the claims on arming speak of.
use Rattle.timer.proofs.Claims.{kicked-off-active, kicked-off-near}
use Rattle.timer.proofs.kickoff.Goals as goal

pub returns-clause-active : goal.returns-clause-active
returns-clause-active c = λ s l m. rw c.drifted_ns.ensures.drifts (kicked-off-active c.args.clock c.args.now c.args.ns s l m)

pub returns-clause-near : goal.returns-clause-near
returns-clause-near c = λ s m. rw c.drifted_ns.ensures.drifts (kicked-off-near c.args.clock c.args.now c.args.ns s m)
