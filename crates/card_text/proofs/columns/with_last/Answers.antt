-- A digit more, or none.
use Rattle.std.proofs.Common.{◌≡◌, ◌∙◌, sym, ap, arith, true, false, Some, ℕ, ◌+◌, ◌*◌, ◌-◌, []}
use Rattle.card_text.specs.Columns.{is_digit}
use Rattle.card_text.proofs.Fields.{digit_same, digit_more, other_more, none_more}
use Rattle.card_text.proofs.columns.with_last.Goals as goal

pub returns-then-not-is_ascii_digit : goal.returns-then-not-is_ascii_digit
returns-then-not-is_ascii_digit c =
    let d : is_digit c.args.last ≡ false = sym (digit_same c.args.last) ∙ sym c.is_ascii_digit.ensures.value ∙ c.if-not-is_ascii_digit.true in
    sym (other_more c.args.v c.args.last ([]) d)

pub returns : goal.returns
returns c =
    let d : is_digit c.args.last ≡ true = sym (digit_same c.args.last) ∙ sym c.is_ascii_digit.ensures.value ∙ c.if-not-is_ascii_digit.false in
    ap (λ (d : ℕ). Some (c.args.v * 10 + d)) c.from.ensures ∙ sym (none_more (c.args.v * 10 + (c.args.last - 48))) ∙ sym (digit_more c.args.v c.args.last [] d (omega (arith, c.requires, c.ranges.last.fits)))
