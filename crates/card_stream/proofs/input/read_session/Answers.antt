-- A chunk more goes behind the bytes before it, and at the end there were no others.
use Rattle.std.proofs.Common.{rules, take, ◌++◌, [], ◌≡◌}
use Rattle.std.proofs.KnownBytes.{Consumes-nil, Consumes-trans, Consumes-whole}
use Rattle.streams.proofs.Known.{none_more, read_at_ok}
use Rattle.card_stream.specs.Reader.{chunk_next, session_of}
use Rattle.card_stream.proofs.input.read_session.Goals as goal

pub loop-init : goal.loop-init
unfolding chunk_next
loop-init g c = ([], Consumes-nil _, c.blank_reader-reader.ensures)

pub returns-then-n-eq0-clause-value : goal.returns-then-n-eq0-clause-value
returns-then-n-eq0-clause-value g c =
    let (input, consumed, taken) = c.loop.invariant in
    let (more, end) = read_at_ok _ _ _ c.in_ok-n.n _ c.in_ok-n.ensures c.read_some.ensures.bytes in
    let n = c.if-n-eq0.true in
    let session = c.take_end-given.new.self.session in
    Consumes-whole _ _ input (λ bytes. session ≡ session_of bytes) (none_more _ _ _ input _ _ n consumed more) (end n (search rules)) (c.take_end-given.ensures.whole input taken)

pub loop-preserved : goal.loop-preserved
loop-preserved g c =
    let (input, consumed, taken) = c.loop.invariant in
    let (more, end) = read_at_ok _ _ _ c.in_ok-n.n _ c.in_ok-n.ensures c.read_some.ensures.bytes in
    (input ++ take c.in_ok-n.n c.read_some.new.buf, Consumes-trans _ _ _ _ _ consumed more, c.take_chunk.ensures.has_read input taken)
