-- A digit more, or what ends the digits.
use Rattle.std.proofs.Common.{◌≡◌, ◌∙◌, sym, false, true, arith, ◌+◌, ◌*◌, ◌-◌, ◌≤◌}
use lib.ListN.{get_or}
use Rattle.card_text.specs.Columns.{is_digit}
use Rattle.card_text.proofs.Fields.{digit_same, more_at, over_at, none_at, end_at}
use Rattle.card_text.proofs.columns.number_behind.Goals as goal

pub loop-b-preserved : goal.loop-b-preserved
loop-b-preserved c =
    let l = c.loop-b in
    let s = c.args.digits.now in
    let d : is_digit (get_or s l.b-index 0) ≡ true = sym (digit_same (get_or s l.b-index 0)) ∙ sym c.is_ascii_digit.ensures.value ∙ c.if-not-is_ascii_digit.false in
    let v : c.in_ok-number.number ≡ l.number * 10 + (get_or s l.b-index 0 - 48) = omega (arith, c.in_ok-number.ensures, c.in_ok-checked_mul.ensures, c.from.ensures) in
    rw v (sym (more_at s l.b-index l.number c.loop-b-test.true d (omega (arith, v))) ∙ l.invariant)

pub returns-then-not-is_ascii_digit : goal.returns-then-not-is_ascii_digit
returns-then-not-is_ascii_digit c =
    let l = c.loop-b in
    let s = c.args.digits.now in
    let d : is_digit (get_or s l.b-index 0) ≡ false = sym (digit_same (get_or s l.b-index 0)) ∙ sym c.is_ascii_digit.ensures.value ∙ c.if-not-is_ascii_digit.true in
    sym (none_at s l.b-index l.number c.loop-b-test.true d) ∙ l.invariant

pub returns-in_err-checked_mul : goal.returns-in_err-checked_mul
returns-in_err-checked_mul c =
    let l = c.loop-b in
    let over : 18446744073709551616 ≤ l.number * 10 = omega (arith, c.in_err-checked_mul.ensures {u = tt}) in
    c.from_residual.ensures ∙ sym (over_at c.args.digits.now l.b-index l.number c.loop-b-test.true (omega (arith, over))) ∙ l.invariant

pub returns-in_err-number : goal.returns-in_err-number
returns-in_err-number c =
    let l = c.loop-b in
    let s = c.args.digits.now in
    let over : 18446744073709551616 ≤ l.number * 10 + (get_or s l.b-index 0 - 48) = omega (arith, c.in_err-number.ensures {u = tt}, c.in_ok-checked_mul.ensures, c.from.ensures) in
    c.from_residual-in_err-number.ensures ∙ sym (over_at s l.b-index l.number c.loop-b-test.true (omega (arith, over))) ∙ l.invariant

pub returns : goal.returns
returns c = sym (end_at c.args.digits.now c.loop-b.b-index c.loop-b.number c.loop-b-test.false) ∙ c.loop-b.invariant
