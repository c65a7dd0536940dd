-- The bytes that are taken, and the end behind them.
use Rattle.std.proofs.Common.{◌∙◌, sym, ap, length, ℕ, List}
use Rattle.card_text.specs.Lines.{laid}
use Rattle.card_stream_c.proofs.Replay.{stopped, both}
use Rattle.card_stream_c.proofs.card_stream_replay.Goals as goal

pub returns-then-fed-input-clause-value : goal.returns-then-fed-input-clause-value
returns-then-fed-input-clause-value c =
    let f = c.feed-fed.ensures in
    let b = c.blank_reader-reader.ensures in
    (rw b at f.written) ∙ ap length (sym (stopped c.args.input.now (length c.args.out.now) c.feed-fed.result.taken (rw b at f.taken) c.if-fed-input.true))

pub returns-then-fed-input-clause-out_after : goal.returns-then-fed-input-clause-out_after
returns-then-fed-input-clause-out_after c =
    let f = c.feed-fed.ensures in
    let b = c.blank_reader-reader.ensures in
    (rw b at f.out_after) ∙ ap (λ (x : List ℕ). laid x c.args.out.now) (sym (stopped c.args.input.now (length c.args.out.now) c.feed-fed.result.taken (rw b at f.taken) c.if-fed-input.true))

pub returns-clause-value : goal.returns-clause-value
returns-clause-value c =
    let f = c.feed-fed.ensures in
    let e = c.finish.ensures in
    let b = c.blank_reader-reader.ensures in
    (both c.args.input.now c.args.out.now c.feed-fed.new.out c.finish.new.out c.feed-fed.new.reader c.feed-fed.result.taken c.feed-fed.result.written c.finish.result (rw b at f.taken) c.if-fed-input.false c.feed-fed.auto.out f.in_bounds.1 (rw b at f.reader_after) (rw b at f.written) (rw b at f.out_after) e.value e.out_after).0

pub returns-clause-out_after : goal.returns-clause-out_after
returns-clause-out_after c =
    let f = c.feed-fed.ensures in
    let e = c.finish.ensures in
    let b = c.blank_reader-reader.ensures in
    (both c.args.input.now c.args.out.now c.feed-fed.new.out c.finish.new.out c.feed-fed.new.reader c.feed-fed.result.taken c.feed-fed.result.written c.finish.result (rw b at f.taken) c.if-fed-input.false c.feed-fed.auto.out f.in_bounds.1 (rw b at f.reader_after) (rw b at f.written) (rw b at f.out_after) e.value e.out_after).1
