-- Four digits, and the four behind them.
use Rattle.std.proofs.Common.{◌≡◌, ◌∙◌, ◌+◌, ap, arith, drop}
use Rattle.std.proofs.lemmas.Option.{IfSome_then}
use Rattle.card_text.specs.Columns.{number_behind}
use Rattle.card_text.proofs.columns.eight_more.Goals as goal

pub returns : goal.returns
returns c =
    let s = c.args.columns.now in
    let e : c.args.i + 4 + 4 ≡ c.args.i + 8 = omega arith in
    IfSome_then c.four_more-2.result c.four_more-2.ensures (λ n h. c.in_ok-four_more.ensures {u = tt} ∙ h ∙ ap (λ k. number_behind n (drop k s)) e)
