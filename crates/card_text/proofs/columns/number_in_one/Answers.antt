-- The digit, or none.
use Rattle.std.proofs.Common.{◌≡◌, ◌∙◌, sym, ap, true, false, Some}
use Rattle.card_text.specs.Columns.{is_digit}
use Rattle.card_text.proofs.Fields.{digit_same, digit_alone, other_alone}
use Rattle.card_text.proofs.columns.number_in_one.Goals as goal

pub returns-then-not-is_ascii_digit : goal.returns-then-not-is_ascii_digit
returns-then-not-is_ascii_digit c =
    let d : is_digit c.args.last ≡ false = sym (digit_same c.args.last) ∙ sym c.is_ascii_digit.ensures.value ∙ c.if-not-is_ascii_digit.true in
    sym (other_alone c.args.last d)

pub returns : goal.returns
returns c =
    let d : is_digit c.args.last ≡ true = sym (digit_same c.args.last) ∙ sym c.is_ascii_digit.ensures.value ∙ c.if-not-is_ascii_digit.false in
    ap Some c.from.ensures ∙ sym (digit_alone c.args.last d)
