-- The clock, written as its flag and its quotient.
use Rattle.flat_engine.proofs.Laws.{clock_put}
use Rattle.flat_engine.proofs.clock.set_clock.Goals as goal

pub returns : goal.returns
returns c = rw (c.clock_quotient-f.ensures, c.clock_drifting-f.ensures, c.clock_of-clock.ensures) (clock_put c.args.f.now c.requires c.args.setting)
