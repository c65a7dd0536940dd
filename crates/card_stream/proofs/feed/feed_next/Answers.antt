-- Where no card stands, the bytes before a newline are taken, or the newline.
use Rattle.std.proofs.Common.{◌≡◌, ◌∙◌, ◌-◌, sym, ap, arith, length, List, ℕ}
use Rattle.card_text.specs.Lines.{laid}
use Rattle.card_stream.proofs.Bytes.{newline_first, takes_bytes}
use Rattle.card_stream.proofs.feed.feed_next.Goals as goal

pub returns-then-input-ne-NEWLINE-clause-rest : goal.returns-then-input-ne-NEWLINE-clause-rest
returns-then-input-ne-NEWLINE-clause-rest c =
    let room = length c.args.out.now in
    let same : room - 0 ≡ room = omega arith in
    let f = c.keep_bytes.ensures in
    rw (f.self_after, same) (takes_bytes c.args.reader.now c.args.input.now c.keep_bytes.result room f.bounds.1 c.requires.room f.silent)

pub returns-clause-reader_after : goal.returns-clause-reader_after
returns-clause-reader_after c =
    let one = newline_first c.args.reader.now c.args.input.now (length c.args.out.now) c.requires.some c.if-input-ne-NEWLINE.false c.requires.room in
    c.feed_newline.ensures.reader_after ∙ sym one.0

pub returns-clause-written : goal.returns-clause-written
returns-clause-written c =
    let one = newline_first c.args.reader.now c.args.input.now (length c.args.out.now) c.requires.some c.if-input-ne-NEWLINE.false c.requires.room in
    c.feed_newline.ensures.value ∙ ap length (sym one.1)

pub returns-clause-out_after : goal.returns-clause-out_after
returns-clause-out_after c =
    let one = newline_first c.args.reader.now c.args.input.now (length c.args.out.now) c.requires.some c.if-input-ne-NEWLINE.false c.requires.room in
    c.feed_newline.ensures.out_after ∙ ap (λ (l : List ℕ). laid l c.args.out.now) (sym one.1)

pub returns-clause-rest : goal.returns-clause-rest
returns-clause-rest c =
    let one = newline_first c.args.reader.now c.args.input.now (length c.args.out.now) c.requires.some c.if-input-ne-NEWLINE.false c.requires.room in
    rw (c.feed_newline.ensures.reader_after, c.feed_newline.ensures.value) one.2
