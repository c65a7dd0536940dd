-- What is added carries as rounding does: `drift/proofs/Nearest.antt`.
use Rattle.drift.proofs.Nearest.{rounds}
use Rattle.drift.proofs.floats.nearest_ns.Goals as goal

pub returns : goal.returns
returns c = rw c.carry.ensures (rounds c.args.mantissa c.from-product.result c.args.places c.from-product.ensures c.requires.le_places c.requires.places_bound)
