-- A blank, the first digit, or none.
use Rattle.std.proofs.Common.{◌≡◌, ◌∙◌, sym, ap, true, false, ℕ, [], ◌∷◌}
use Rattle.card_text.specs.Columns.{is_digit, number_behind}
use Rattle.card_text.proofs.Fields.{digit_same, blank_first, zero_first, digit_first, other_first}
use Rattle.card_text.proofs.columns.number_in_four.Goals as goal

pub returns-then-first-eq32 : goal.returns-then-first-eq32
returns-then-first-eq32 c = rw c.if-first-eq32.true (c.number_in_three.ensures ∙ sym (blank_first (c.args.second ∷ c.args.third ∷ c.args.last ∷ [])))

pub returns-then-not-is_ascii_digit : goal.returns-then-not-is_ascii_digit
returns-then-not-is_ascii_digit c =
    let d : is_digit c.args.first ≡ false = sym (digit_same c.args.first) ∙ sym c.is_ascii_digit.ensures.value ∙ c.if-not-is_ascii_digit.true in
    sym (other_first c.args.first (c.args.second ∷ c.args.third ∷ c.args.last ∷ []) d c.if-first-eq32.false)

pub returns-then-first-eq48 : goal.returns-then-first-eq48
returns-then-first-eq48 c = rw c.if-first-eq48.true (sym (zero_first c.args.second (c.args.third ∷ c.args.last ∷ [])))

pub returns : goal.returns
returns c =
    let d : is_digit c.args.first ≡ true = sym (digit_same c.args.first) ∙ sym c.is_ascii_digit.ensures.value ∙ c.if-not-is_ascii_digit.false in
    c.with_three.ensures ∙ ap (λ (v : ℕ). number_behind v (c.args.second ∷ c.args.third ∷ c.args.last ∷ [])) c.from.ensures ∙ sym (digit_first c.args.first (c.args.second ∷ c.args.third ∷ c.args.last ∷ []) d c.if-first-eq32.false c.if-first-eq48.false)
