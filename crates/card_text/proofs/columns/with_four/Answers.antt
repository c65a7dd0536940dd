-- A digit more, or none.
use Rattle.std.proofs.Common.{◌≡◌, ◌∙◌, sym, ap, arith, true, false, ℕ, ◌+◌, ◌*◌, [], ◌∷◌}
use Rattle.card_text.specs.Columns.{is_digit, number_behind}
use Rattle.card_text.proofs.Fields.{digit_same, digit_more, other_more}
use Rattle.card_text.proofs.columns.with_four.Goals as goal

pub returns-then-not-is_ascii_digit : goal.returns-then-not-is_ascii_digit
returns-then-not-is_ascii_digit c =
    let d : is_digit c.args.first ≡ false = sym (digit_same c.args.first) ∙ sym c.is_ascii_digit.ensures.value ∙ c.if-not-is_ascii_digit.true in
    sym (other_more c.args.v c.args.first (c.args.second ∷ c.args.third ∷ c.args.last ∷ []) d)

pub returns : goal.returns
returns c =
    let d : is_digit c.args.first ≡ true = sym (digit_same c.args.first) ∙ sym c.is_ascii_digit.ensures.value ∙ c.if-not-is_ascii_digit.false in
    c.with_three.ensures ∙ ap (λ (d : ℕ). number_behind (c.args.v * 10 + d) (c.args.second ∷ c.args.third ∷ c.args.last ∷ [])) c.from.ensures ∙ sym (digit_more c.args.v c.args.first (c.args.second ∷ c.args.third ∷ c.args.last ∷ []) d (omega (arith, c.requires, c.ranges.first.fits)))
