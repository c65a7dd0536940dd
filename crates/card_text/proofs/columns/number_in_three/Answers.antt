-- A blank, the first digit, or none.
use Rattle.std.proofs.Common.{◌≡◌, ◌∙◌, sym, ap, true, false, ℕ, [], ◌∷◌}
use Rattle.card_text.specs.Columns.{is_digit, number_behind}
use Rattle.card_text.proofs.Fields.{digit_same, blank_first, zero_first, digit_first, other_first}
use Rattle.card_text.proofs.columns.number_in_three.Goals as goal

pub returns-then-second-eq32 : goal.returns-then-second-eq32
returns-then-second-eq32 c = rw c.if-second-eq32.true (c.number_in_two.ensures ∙ sym (blank_first (c.args.third ∷ c.args.last ∷ [])))

pub returns-then-not-is_ascii_digit : goal.returns-then-not-is_ascii_digit
returns-then-not-is_ascii_digit c =
    let d : is_digit c.args.second ≡ false = sym (digit_same c.args.second) ∙ sym c.is_ascii_digit.ensures.value ∙ c.if-not-is_ascii_digit.true in
    sym (other_first c.args.second (c.args.third ∷ c.args.last ∷ []) d c.if-second-eq32.false)

pub returns-then-second-eq48 : goal.returns-then-second-eq48
returns-then-second-eq48 c = rw c.if-second-eq48.true (sym (zero_first c.args.third (c.args.last ∷ [])))

pub returns : goal.returns
returns c =
    let d : is_digit c.args.second ≡ true = sym (digit_same c.args.second) ∙ sym c.is_ascii_digit.ensures.value ∙ c.if-not-is_ascii_digit.false in
    c.with_two.ensures ∙ ap (λ (v : ℕ). number_behind v (c.args.third ∷ c.args.last ∷ [])) c.from.ensures ∙ sym (digit_first c.args.second (c.args.third ∷ c.args.last ∷ []) d c.if-second-eq32.false c.if-second-eq48.false)
