-- The eight bytes.
use Rattle.std.proofs.Common.{◌∙◌, sym, ap}
use Rattle.std.specs.Int.{w64, from_le_bytes}
use Rattle.card_text.proofs.Fields.{eight_from}
use Rattle.card_text.proofs.columns.word_at.Goals as goal

pub returns : goal.returns
returns c = c.from_le_bytes.ensures ∙ ap (from_le_bytes w64) (sym (eight_from c.args.columns.now c.args.i c.requires))
