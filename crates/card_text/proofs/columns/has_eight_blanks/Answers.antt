-- The number that the bytes are says each of them.
use Rattle.std.proofs.Common.{◌≡◌, ◌∙◌, sym, ap, arith, refl}
use Rattle.std.specs.Int.{w64, to_le_bytes, from_le_bytes}
use Rattle.std.proofs.lemmas.Bool.{OnTrue_from}
use Rattle.std.proofs.lemmas.Nat.{le_bytes_8}
use borrow.Author.Tests.{eqb-true}
use Rattle.card_text.proofs.Fields.{blanks_at, eight, blanks, eight_below, eight_from}
use Rattle.card_text.proofs.columns.has_eight_blanks.Goals as goal

pub returns : goal.returns
returns c = OnTrue_from _ _ λ same.
    let s = c.args.columns.now in
    let i = c.args.i in
    let n : c.word_at.result ≡ from_le_bytes w64 (eight s i) = c.word_at.ensures ∙ ap (from_le_bytes w64) (eight_from s i c.requires) in
    let b : to_le_bytes w64 c.word_at.result ≡ eight s i = le_bytes_8 (eight s i) c.word_at.result refl (λ k. eight_below s i (λ j. omega (arith, c.type_inv.columns j)) k) n in
    let e : eight s i ≡ blanks = sym b ∙ ap (to_le_bytes w64) (eqb-true _ _ same) in
    blanks_at s i c.requires e
