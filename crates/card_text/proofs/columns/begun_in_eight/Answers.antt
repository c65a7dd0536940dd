-- The four columns behind blanks; or the first four, and the four behind them.
use Rattle.std.proofs.Common.{◌≡◌, ◌∙◌, ◌+◌, ap, arith, drop}
use Rattle.std.proofs.lemmas.Bool.{OnTrue_at}
use Rattle.std.proofs.lemmas.Option.{IfSome_then}
use Rattle.card_text.specs.Columns.{number_behind}
use Rattle.card_text.proofs.columns.begun_in_eight.Goals as goal

pub returns-then-has_four_blanks : goal.returns-then-has_four_blanks
returns-then-has_four_blanks c =
    let e : c.args.i + 4 + 4 ≡ c.args.i + 8 = omega arith in
    IfSome_then c.begun_in_four.result c.begun_in_four.ensures
    (λ v h. OnTrue_at c.if-has_four_blanks.true c.has_four_blanks.ensures ∙ h ∙ ap (λ k. number_behind v (drop k c.args.columns.now)) e)

pub returns : goal.returns
returns c =
    let s = c.args.columns.now in
    let e : c.args.i + 4 + 4 ≡ c.args.i + 8 = omega arith in
    IfSome_then c.four_more.result c.four_more.ensures (λ n h. c.in_ok-begun_in_four.ensures {u = tt} ∙ h ∙ ap (λ k. number_behind n (drop k s)) e)
