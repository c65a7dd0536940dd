-- The line is held whole, and then its newline ends it.
use Rattle.std.proofs.Common.{◌≡◌, ◌∙◌, refl, sym, arith, rules, length-take-le, take, Some}
use Rattle.card_text.specs.Cards.{event_in}
use Rattle.card_stream.specs.Sessions.{card_given}
use Rattle.card_stream.specs.Reader.{ended_by}
use Rattle.card_stream.proofs.Reading.{holding}
use Rattle.card_stream.proofs.Bytes.{line_left}
use Rattle.card_stream.proofs.reader.CardReader.pass_line.Goals as goal

pub slice_bounds-hold-end : goal.slice_bounds-hold-end
slice_bounds-hold-end c = sym (length-take-le 73 c.args.input.now (omega (arith, c.requires.stands.1)))

pub hold-requires : goal.hold-requires
hold-requires c = length-take-le 73 c.args.input.now (omega (arith, c.requires.stands.1))

pub returns-clause-self_after : goal.returns-clause-self_after
unfolding ended_by
returns-clause-self_after c =
    let s = c.args.self.now.session in
    let next : c.end_line-outcome.new.self ≡ ended_by (holding 0 (take 73 c.args.input.now) s) (card_given s (event_in (Some c.args.card))) = c.end_line-outcome.ensures.self_after ∙ rw (← c.requires.stands.0, ← c.hold.ensures.filled, ← c.hold.ensures.columns, c.event_in.ensures.value) refl in
    line_left c.args.self.now c.end_line-outcome.new.self c.args.input.now c.args.card c.requires.stands (search rules) next
