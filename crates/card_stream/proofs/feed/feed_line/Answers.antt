-- The line is held whole, and then its newline ends it: it prints what its card gives.
use Rattle.std.proofs.Common.{◌≡◌, ◌∙◌, refl, sym, ap, arith, rules, length, length-append, length-take-le, take, drop, Some, List, ℕ}
use Rattle.card_text.specs.Cards.{event_in}
use Rattle.card_text.specs.Lines.{laid}
use Rattle.card_stream.specs.Sessions.{card_given}
use Rattle.card_stream.specs.declared.reader.CardReader.{CardReader}
use Rattle.card_stream.specs.Reader.{ended_by}
use Rattle.card_stream.specs.Feed.{given_text, feed_text}
use Rattle.card_stream.proofs.Reading.{holding}
use Rattle.card_stream.proofs.Bytes.{line_fed}
use Rattle.card_stream.proofs.feed.feed_line.Goals as goal

pub slice_bounds-hold-end : goal.slice_bounds-hold-end
slice_bounds-hold-end c = sym (length-take-le 73 c.args.input.now (omega (arith, c.requires.stands.1)))

pub hold-requires : goal.hold-requires
hold-requires c = length-take-le 73 c.args.input.now (omega (arith, c.requires.stands.1))

pub returns : goal.returns
unfolding ended_by
returns c =
    let r = c.args.reader.now in
    let input = c.args.input.now in
    let read = event_in (Some c.args.card) in
    let p = c.put_card-written in
    let answer : card_given r.session c.event_in.result ≡ card_given r.session read = rw c.event_in.ensures.value refl in
    let next : CardReader = record { partial = c.hold.new.self; session = p.new.s } in
    let left : next ≡ ended_by (holding 0 (take 73 input) r.session) (card_given r.session read) = rw (← c.requires.stands.0, ← c.hold.ensures.filled, ← c.hold.ensures.columns, p.ensures.session_after, answer) refl in
    let f = line_fed r next input c.args.card (length c.args.out.now) c.requires.stands (search rules) left c.requires.room in
    let printed = given_text (card_given r.session c.event_in.result) in
    let text : given_text (card_given r.session c.event_in.result) ≡ feed_text r (take 74 input) = ap given_text answer ∙ sym f.1 in
    let value : p.result ≡ length (given_text (card_given r.session read)) = p.ensures.value ∙ ap (λ a. length (given_text a)) answer in
    record {
      reader_after = f.0;
      value = p.ensures.value ∙ ap length text;
      out_after = p.ensures.out_after ∙ ap (λ (l : List ℕ). laid l c.args.out.now) text;
      rest = rw value f.2;
      upper_bound = rw p.ensures.out_after (omega (arith, p.ensures.value, length-append printed (drop (length printed) c.args.out.now)));
      stays = p.ensures.stays;
    }
