-- The newline.
use Rattle.std.proofs.Common.{◌∙◌, sym}
use Rattle.card_stream.proofs.Bytes.{newline_left}
use Rattle.card_stream.proofs.reader.CardReader.take_next.Goals as goal

pub returns-clause-self_after : goal.returns-clause-self_after
returns-clause-self_after c = c.pass_newline.ensures.self_after ∙ sym (newline_left c.args.self.now c.args.input.now c.requires.some c.if-input-ne-NEWLINE.false)
