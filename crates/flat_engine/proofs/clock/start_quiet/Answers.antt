-- The end of quiet time, written as its flag and its number.
use Rattle.std.proofs.Common.{refl}
use Rattle.flat_engine.proofs.Laws.{quiet_put}
use Rattle.flat_engine.proofs.clock.start_quiet.Goals as goal

pub returns : goal.returns
returns c = quiet_put c.args.f.now c.requires _ (simp (c.drifted_ns-by.ensures.drifts, c.clock_by_flag-clock.ensures) refl)
