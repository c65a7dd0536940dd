-- One byte more is held, and at the end all are.
use Rattle.std.proofs.Common.{subst}
use Rattle.std.proofs.lemmas.List.{take_all}
use Rattle.card_stream.specs.Partials.{Holds}
use Rattle.card_stream.proofs.Reading.{kept_more}
use Rattle.card_stream.proofs.partial.line_of.Goals as goal

pub loop-b-preserved : goal.loop-b-preserved
loop-b-preserved c = kept_more c.loop-b.line c.push.new.self c.args.bytes.now c.loop-b.b-index 0 c.loop-b-test.true c.push.ensures c.loop-b.invariant

pub returns : goal.returns
returns c = subst (Holds c.loop-b.line) (take_all c.loop-b.b-index c.args.bytes.now c.loop-b-test.false) c.loop-b.invariant
