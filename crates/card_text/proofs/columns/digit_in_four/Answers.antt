-- No other four bytes are that number.
use Rattle.std.proofs.Common.{◌≡◌, ◌∙◌, ◌+◌, ◌%◌, ◌<◌, ℕ, sym, ap, arith, Some}
use Rattle.card_text.proofs.Fields.{one_of_four}
use Rattle.card_text.proofs.columns.digit_in_four.Goals as goal

near : (n : ℕ) → n < 4294967296 → (n + 3755990992) % 4294967296 < 10 → n ≡ 0x2020_2030 + (n + 3755990992) % 4294967296
near n f h = omega arith

pub returns : goal.returns
returns c =
    let a = c.args in
    let r = c.ranges in
    let n = c.from_be_bytes-digit.result in
    let e : n ≡ 0x2020_2030 + (n + 3755990992) % 4294967296 = near n c.from_be_bytes-digit.type_inv c.if-digit-ge10.false in
    one_of_four a.first a.second a.third a.last ((n + 3755990992) % 4294967296) r.first.fits r.second.fits r.third.fits r.last.fits c.if-digit-ge10.false (omega (arith, c.from_be_bytes-digit.ensures, e))
    ∙ sym (ap Some c.from.ensures)
