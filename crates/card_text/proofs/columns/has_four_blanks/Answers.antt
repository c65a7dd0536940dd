-- The number that the bytes are says each of them.
use Rattle.std.proofs.Common.{◌≡◌, ◌∙◌, sym, ap, arith, refl}
use Rattle.std.specs.Int.{w32, to_le_bytes}
use Rattle.std.proofs.lemmas.Bool.{OnTrue_from}
use Rattle.std.proofs.lemmas.Nat.{le_bytes_4}
use borrow.Author.Tests.{eqb-true}
use Rattle.card_text.proofs.Fields.{four, four_blanks_at, four_below}
use Rattle.card_text.proofs.columns.has_four_blanks.Goals as goal

pub returns : goal.returns
returns c = OnTrue_from _ _ λ same.
    let s = c.args.columns.now in
    let i = c.args.i in
    let b : to_le_bytes w32 c.from_le_bytes.result ≡ four s i = le_bytes_4 (four s i) c.from_le_bytes.result refl (λ k. four_below s i (λ j. omega (arith, c.type_inv.columns j)) k) c.from_le_bytes.ensures in
    four_blanks_at s i c.requires (sym b ∙ ap (to_le_bytes w32) (eqb-true _ _ same))
