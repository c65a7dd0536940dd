-- The four columns, and what is behind them.
use Rattle.std.proofs.Common.{◌∙◌, ◌+◌, sym, ap, arith, drop}
use Rattle.card_text.specs.Columns.{number_of}
use Rattle.card_text.proofs.Fields.{four, four_rest, begun}
use Rattle.card_text.proofs.columns.begun_in_four.Goals as goal

pub returns : goal.returns
returns c =
    let s = c.args.columns.now in
    let i = c.args.i in
    ap number_of (four_rest s i c.requires) ∙ begun (four s i) (drop (i + 4) s) c.in_ok-v.v (sym c.number_in_four.ensures ∙ c.in_ok-v.was) (omega (arith, c.if-v-eq0.false))
