-- The columns are these two.
use Rattle.std.proofs.Common.{◌∙◌, ap, arith}
use Rattle.card_text.specs.Columns.{number_of}
use Rattle.card_text.proofs.Fields.{last_two}
use Rattle.card_text.proofs.columns.number_of_2.Goals as goal

pub returns-then-columns-eq2 : goal.returns-then-columns-eq2
returns-then-columns-eq2 c = c.number_in_two.ensures ∙ ap number_of (last_two c.args.columns.now 0 (omega arith))
