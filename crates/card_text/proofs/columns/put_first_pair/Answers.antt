-- The pair's bytes are its places.
use Rattle.std.proofs.Common.{refl}
use Rattle.card_text.proofs.Pairs.{first_pair_at}
use Rattle.card_text.proofs.columns.put_first_pair.Goals as goal

pub returns : goal.returns
returns c = let p = first_pair_at c.args.n c.requires.1 in rw (p.0, p.1) refl
