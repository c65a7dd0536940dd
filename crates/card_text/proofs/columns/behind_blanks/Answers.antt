-- A blank more.
use Rattle.std.proofs.Common.{◌∙◌, sym, arith}
use Rattle.card_text.proofs.Fields.{blank_at}
use Rattle.card_text.proofs.columns.behind_blanks.Goals as goal

pub loop-i-preserved : goal.loop-i-preserved
loop-i-preserved c = record { bound = omega arith; same = sym (blank_at c.args.columns.now c.loop-i.i c.loop-i-test.true c.if-columns-i-eq32.true) ∙ c.loop-i.invariant.same }
