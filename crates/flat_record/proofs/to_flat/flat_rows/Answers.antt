-- What the array's `map` gives is the rows, one after the other.
use borrow.Author.Rules.{rules}
use Rattle.lease.specs.Bitmaps.{capacity}
use Rattle.wire.specs.Flat.{flat_row}
use Rattle.wire.proofs.Rows.{mapped}
use Rattle.flat_record.proofs.to_flat.flat_rows.Goals as goal

pub returns : goal.returns
returns c = mapped _ flat_row (λ p q x y k. search rules) tt c.args.peers c.map.result capacity (search rules) c.map.ensures.items
