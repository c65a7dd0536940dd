-- Eight blanks more.
use Rattle.std.proofs.Common.{◌∙◌, sym, arith}
use Rattle.std.proofs.lemmas.Bool.{OnTrue_at}
use Rattle.card_text.proofs.columns.behind_eights.Goals as goal

pub loop-i-preserved : goal.loop-i-preserved
loop-i-preserved c = record { bound = omega arith; same = sym (OnTrue_at c.if-not-has_eight_blanks.false c.has_eight_blanks.ensures) ∙ c.loop-i.invariant.same }
