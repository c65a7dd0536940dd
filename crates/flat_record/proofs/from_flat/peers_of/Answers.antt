-- What the array's `map` gives is the rows, one after the other.
use borrow.Author.Rules.{rules}
use Rattle.lease.specs.Bitmaps.{capacity}
use Rattle.wire.specs.FromFlat.{peer_of}
use Rattle.wire.proofs.Rows.{mapped}
use Rattle.flat_record.proofs.from_flat.peers_of.Goals as goal

pub returns : goal.returns
returns c = mapped _ peer_of (λ p q x y k. search rules) tt c.args.peers c.map.result capacity (search rules) c.map.ensures.items
