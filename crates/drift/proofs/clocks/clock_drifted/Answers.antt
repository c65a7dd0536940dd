-- The answer is the definition's, which meets the bound.
use Rattle.std.proofs.Common.{ap, ◌∙◌}
use lib.Ieee.{Float, binary64, mul}
use Rattle.drift.specs.Drift.{ns_of, product_of, drifted_by}
use Rattle.drift.specs.Clocks.{drifted_on}
use Rattle.drift.proofs.Claims.{meets_bound}
use Rattle.drift.proofs.clocks.clock_drifted.Goals as goal

pub returns-in-Drifting-clause-bound : goal.returns-in-Drifting-clause-bound
unfolding drifted_on drifted_by product_of
returns-in-Drifting-clause-bound c =
    meets_bound c.args.clock c.args.ns c.in_ns.result (rw c.in-Drifting.is (c.in_ns.ensures ∙ ap (λ (x : Float). ns_of (mul binary64 c.in-Drifting.q x)) c.in_seconds-seconds.ensures))
