-- A start of what is written is one of what the end prints.
use Rattle.std.proofs.Common.{subst}
use Rattle.streams.specs.Streams.{AppendsStart}
use Rattle.card_stream.proofs.Written.{end_put}
use Rattle.card_stream.proofs.replay.feed_end.Goals as goal

pub returns-clause-start : goal.returns-clause-start
returns-clause-start g c = let f = c.finish-n.ensures in subst (AppendsStart _ _) (end_put c.args.reader.now c.args.out.now _ _ c.requires f.value f.out_after) c.write_every.ensures.start
