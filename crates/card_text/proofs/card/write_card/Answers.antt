-- The room and the card are of one length, and the card that is written is read as it is alone.
use Rattle.std.proofs.Common.{◌≡◌, ◌∙◌, sym, ap, subst, length, length-take-le, drop}
use lib.Seq.{take_at}
use Rattle.wire.specs.Events.{card_of}
use Rattle.card_text.specs.Cards.{card_line}
use Rattle.card_text.specs.Claims.{WideCard}
use Rattle.card_text.proofs.Cards.{length_line, card-comes-back}
use Rattle.card_text.proofs.card.write_card.Goals as goal

pub copy_from_slice-requires : goal.copy_from_slice-requires
copy_from_slice-requires c = length-take-le 74 c.args.out.now c.if-out-lt-CARD.false ∙ sym (ap length c.card_line-line.ensures.value ∙ length_line _)

pub returns-clause-comes_back : goal.returns-clause-comes_back
returns-clause-comes_back c =
    let e = c.args.e in
    let card = c.card_of.ensures in
    let line : c.copy_from_slice.new.self ≡ card_line (card_of e) = c.copy_from_slice.ensures.after ∙ c.card_line-line.ensures.value ∙ ap card_line card in
    rw (line, take_at (card_line (card_of e)) (drop 74 c.args.out.now) 74 (length_line (card_of e)))
    (card-comes-back e (subst WideCard card c.card_line-line.ensures.wide, sym c.is_carried.ensures ∙ c.if-not-is_carried.false))
