-- The byte that is no blank, and what is behind it.
use Rattle.std.proofs.Common.{◌≡◌, ◌∙◌, sym, ap, arith, true, false, ℕ, ◌+◌, drop}
use lib.ListN.{get_or}
use Rattle.card_text.specs.Columns.{is_digit, number_behind}
use Rattle.card_text.proofs.Fields.{digit_same, nothing_at, other_at, zero_at, first_at, rest_at}
use Rattle.card_text.proofs.columns.number_of.Goals as goal

pub returns-then-i-columns : goal.returns-then-i-columns
returns-then-i-columns c = sym (nothing_at c.args.columns.now c.behind_blanks-i.result (omega arith)) ∙ c.behind_blanks-i.ensures.same

pub returns-then-not-is_ascii_digit : goal.returns-then-not-is_ascii_digit
returns-then-not-is_ascii_digit c =
    let s = c.args.columns.now in
    let i = c.behind_blanks-i.result in
    let d : is_digit (get_or s i 0) ≡ false = sym (digit_same (get_or s i 0)) ∙ sym c.is_ascii_digit.ensures.value ∙ c.if-not-is_ascii_digit.true in
    sym (other_at s i (omega arith) d c.behind_blanks-i.ensures.stops) ∙ c.behind_blanks-i.ensures.same

pub returns-then-first-eq48 : goal.returns-then-first-eq48
returns-then-first-eq48 c = c.then_some.ensures ∙ zero_at c.args.columns.now c.behind_blanks-i.result (omega arith) c.if-first-eq48.true ∙ c.behind_blanks-i.ensures.same

pub returns : goal.returns
returns c =
    let s = c.args.columns.now in
    let i = c.behind_blanks-i.result in
    let d : is_digit (get_or s i 0) ≡ true = sym (digit_same (get_or s i 0)) ∙ sym c.is_ascii_digit.ensures.value ∙ c.if-not-is_ascii_digit.false in
    c.number_behind.ensures ∙ ap (number_behind c.from.result) (rest_at s (i + 1)) ∙ ap (λ (v : ℕ). number_behind v (drop (i + 1) s)) c.from.ensures
    ∙ sym (first_at s i (omega arith) d c.if-first-eq48.false c.behind_blanks-i.ensures.stops) ∙ c.behind_blanks-i.ensures.same
