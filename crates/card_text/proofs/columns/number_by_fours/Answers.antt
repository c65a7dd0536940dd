-- Each part goes on behind the one before it; behind the last there is nothing.
use Rattle.std.proofs.Common.{◌∙◌, arith}
use Rattle.std.proofs.lemmas.Bool.{OnTrue_at}
use Rattle.std.proofs.lemmas.Option.{IfSome_then}
use Rattle.card_text.proofs.Fields.{blank_at, end_at}
use Rattle.card_text.proofs.columns.number_by_fours.Goals as goal

pub returns-then-has_eight_blanks : goal.returns-then-has_eight_blanks
returns-then-has_eight_blanks c =
    let s = c.args.columns.now in
    let five = OnTrue_at c.if-has_four_blanks.true c.has_four_blanks.ensures ∙ blank_at s 4 (omega arith) c.if-columns-eq32.true in
    IfSome_then c.begun_in_eight.result c.begun_in_eight.ensures
    (λ n h. five ∙ OnTrue_at c.if-has_eight_blanks.true c.has_eight_blanks.ensures ∙ h ∙ end_at s 21 n (omega arith))

pub returns-then-columns-eq32 : goal.returns-then-columns-eq32
returns-then-columns-eq32 c =
    let s = c.args.columns.now in
    let five = OnTrue_at c.if-has_four_blanks.true c.has_four_blanks.ensures ∙ blank_at s 4 (omega arith) c.if-columns-eq32.true in
    IfSome_then c.eight_more.result c.eight_more.ensures
    (λ n h. five ∙ c.in_ok-begun_in_eight.ensures {u = tt} ∙ h ∙ end_at s 21 n (omega arith))

pub returns : goal.returns
returns c =
    let s = c.args.columns.now in
    IfSome_then c.eight_more-3.result c.eight_more-3.ensures
    (λ n h. blank_at s 0 (omega arith) c.if-columns-ne32.false ∙ c.in_ok-begun_in_four.ensures {u = tt} ∙ c.in_ok-eight_more.ensures {u = tt} ∙ h ∙ end_at s 21 n (omega arith))
