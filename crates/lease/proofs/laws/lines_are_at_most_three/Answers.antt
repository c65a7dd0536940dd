use Rattle.lease.proofs.RuleClaims.{at-most-three}
use Rattle.lease.proofs.laws.lines_are_at_most_three.Goals as goal

pub returns : goal.returns
returns c = at-most-three
