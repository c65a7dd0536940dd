-- What was read so far, what that prints, and what was written of it.
use Rattle.std.proofs.Common.{rules, take, ◌++◌, []}
use Rattle.std.proofs.KnownBytes.{Appends-nil, Consumes-nil, Consumes-trans, Consumes-kept}
use Rattle.streams.proofs.Known.{start_of_all, none_more, read_at_ok, read_at_err}
use Rattle.card_stream.specs.Reader.{chunk_next}
use Rattle.card_stream.specs.Feed.{feed_text}
use Rattle.card_stream.proofs.Reading.{has-read}
use Rattle.card_stream.proofs.Written.{written_more, start_more, written_at_end, start_at_end, start_so_far}
use Rattle.card_stream.proofs.replay.replay_all.Goals as goal

pub loop-init : goal.loop-init
unfolding chunk_next feed_text
loop-init g c = ([], Consumes-nil _, c.blank_reader-reader.ensures, Appends-nil _)

pub returns-in_err-n-clause-start : goal.returns-in_err-n-clause-start
returns-in_err-n-clause-start g c =
    let (input, consumed, taken, written) = c.loop.invariant in
    start_so_far _ _ _ _ input (Consumes-kept _ _ _ input consumed (read_at_err _ _ _ _ c.in_err-n.ensures.0 c.read_some.ensures.bytes)) (start_of_all _ _ _ written)

pub returns-then-n-eq0-clause-ok : goal.returns-then-n-eq0-clause-ok
returns-then-n-eq0-clause-ok g c =
    let (input, consumed, taken, written) = c.loop.invariant in
    let (more, end) = read_at_ok _ _ _ c.in_ok-n.n _ c.in_ok-n.ensures c.read_some.ensures.bytes in
    let n = c.if-n-eq0.true in
    written_at_end _ _ _ _ _ _ input (none_more _ _ _ input _ _ n consumed more) (end n (search rules)) taken written c.feed_end.result c.feed_end.ensures.ok

pub returns-then-n-eq0-clause-start : goal.returns-then-n-eq0-clause-start
returns-then-n-eq0-clause-start g c =
    let (input, consumed, taken, written) = c.loop.invariant in
    let (more, end) = read_at_ok _ _ _ c.in_ok-n.n _ c.in_ok-n.ensures c.read_some.ensures.bytes in
    let n = c.if-n-eq0.true in
    start_at_end _ _ _ _ _ _ input (none_more _ _ _ input _ _ n consumed more) (end n (search rules)) taken written c.feed_end.ensures.start

pub returns-in_err-feed_chunk-clause-start : goal.returns-in_err-feed_chunk-clause-start
returns-in_err-feed_chunk-clause-start g c =
    let (input, consumed, taken, written) = c.loop.invariant in
    let (more, end) = read_at_ok _ _ _ c.in_ok-n.n _ c.in_ok-n.ensures c.read_some.ensures.bytes in
    start_so_far _ _ _ _ _ (Consumes-trans _ _ _ _ _ consumed more) (start_more _ _ _ _ _ _ _ taken written c.feed_chunk.ensures.start)

pub loop-preserved : goal.loop-preserved
loop-preserved g c =
    let (input, consumed, taken, written) = c.loop.invariant in
    let (more, end) = read_at_ok _ _ _ c.in_ok-n.n _ c.in_ok-n.ensures c.read_some.ensures.bytes in
    let e = c.in_ok-feed_chunk.ensures in
    let chunk = take c.in_ok-n.n c.read_some.new.buf in (
      input ++ chunk,
      Consumes-trans _ _ _ _ _ consumed more,
      has-read _ _ input chunk e.reader_after taken,
      written_more _ _ _ _ _ _ _ taken written e.ok,
    )

pub returns-clause-start : goal.returns-clause-start
returns-clause-start g c =
    let (input, consumed, taken, written) = c.loop.invariant in
    start_so_far _ _ _ _ input consumed (start_of_all _ _ _ written)
