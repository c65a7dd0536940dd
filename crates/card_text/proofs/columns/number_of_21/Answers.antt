-- Blanks, and the last four columns.
use Rattle.std.proofs.Common.{◌∙◌, sym, ap, arith}
use Rattle.std.proofs.lemmas.Bool.{OnTrue_at}
use Rattle.card_text.specs.Columns.{number_of}
use Rattle.card_text.proofs.Fields.{blank_at, last_four}
use Rattle.card_text.proofs.columns.number_of_21.Goals as goal

pub returns-then-columns-eq32 : goal.returns-then-columns-eq32
returns-then-columns-eq32 c =
    let s = c.args.columns.now in
    c.number_in_four.ensures ∙ ap number_of (last_four s 17 (omega arith)) ∙ sym (blank_at s 16 (omega arith) c.if-columns-eq32.true)
    ∙ sym (OnTrue_at c.if-has_eight_blanks-2.true c.has_eight_blanks-then-has_eight_blanks.ensures)
    ∙ sym (OnTrue_at c.if-has_eight_blanks.true c.has_eight_blanks.ensures)
