-- The card that is written, read.
use Rattle.std.proofs.Common.{◌≡◌, ◌∙◌, refl, sym, ap, true, replicate, length-take-le, arith, Some}
use lib.Seq.{sets}
use Rattle.wire.specs.Events.{card_of, is_carried}
use Rattle.card_text.specs.Cards.{card_line, can_write_card}
use Rattle.card_stream.proofs.Reading.{read-written}
use Rattle.card_stream.proofs.partial.read_written.Goals as goal

pub slice_bounds-line_of-end : goal.slice_bounds-line_of-end
slice_bounds-line_of-end c = sym (length-take-le 73 c.write_card.new.out (omega (arith, c.write_card.auto.out)))

pub returns : goal.returns
unfolding can_write_card
returns c =
    let e = c.args.e in
    let w = c.write_card.ensures in
    let carried : is_carried e ≡ true = sym w.value ∙ c.if-not-write_card.false in
    let laid : c.write_card.new.out ≡ sets (replicate 74 0) 0 (card_line (card_of e)) = rw carried at w.out_after in
    rw carried (ap Some (c.read.ensures.value ∙ read-written e (replicate 74 0) c.write_card.new.out c.line_of.result refl laid (rw c.if-not-write_card.false at w.comes_back) c.line_of.ensures))
