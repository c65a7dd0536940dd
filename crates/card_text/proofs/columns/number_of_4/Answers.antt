-- The columns are these four.
use Rattle.std.proofs.Common.{◌∙◌, ap, arith}
use Rattle.card_text.specs.Columns.{number_of}
use Rattle.card_text.proofs.Fields.{last_four}
use Rattle.card_text.proofs.columns.number_of_4.Goals as goal

pub returns-then-columns-eq4 : goal.returns-then-columns-eq4
returns-then-columns-eq4 c = c.number_in_four.ensures ∙ ap number_of (last_four c.args.columns.now 0 (omega arith))
