-- The pair's bytes are its digits.
use Rattle.std.proofs.Common.{refl}
use Rattle.card_text.proofs.Pairs.{pair_at}
use Rattle.card_text.proofs.columns.put_pair.Goals as goal

pub returns : goal.returns
returns c = let p = pair_at c.args.n in rw (p.0, p.1) refl
