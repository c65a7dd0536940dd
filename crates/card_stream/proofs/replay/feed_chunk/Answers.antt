-- What was taken so far, and what was written of what it prints.
use Rattle.std.proofs.Common.{◌++◌, [], refl, subst, take, drop}
use Rattle.std.proofs.KnownBytes.{Appends-nil}
use Rattle.std.specs.Io.KnownBytes.{Appends}
use Rattle.streams.specs.Streams.{AppendsStart}
use Rattle.streams.proofs.Known.{taken_off, taken_off-rest}
use Rattle.card_stream.specs.Reader.{chunk_next}
use Rattle.card_stream.specs.Feed.{feed_text}
use Rattle.card_stream.proofs.Written.{fed_put, chunk_more, written_more, start_more, start_of_chunk}
use Rattle.card_stream.proofs.replay.feed_chunk.Goals as goal

pub loop-rest-init : goal.loop-rest-init
unfolding chunk_next feed_text
loop-rest-init g c = ([], refl, refl, Appends-nil _)

pub returns-in_err-context-clause-start : goal.returns-in_err-context-clause-start
returns-in_err-context-clause-start g c =
    let (done, split, taken, written) = c.loop-rest.invariant in
    let f = c.feed-fed.ensures in
    let rest = c.loop-rest.rest.now in
    let n = c.feed-fed.result.taken in
    let start = subst (AppendsStart _ _) (fed_put _ _ _ _ f.written f.out_after) c.write_every.ensures.start in
    start_of_chunk _ _ _ _ (done ++ take n rest) (drop n rest) (taken_off _ done rest n split) (start_more _ _ _ _ _ done (take n rest) taken written start)

pub loop-rest-preserved : goal.loop-rest-preserved
loop-rest-preserved g c =
    let (done, split, taken, written) = c.loop-rest.invariant in
    let f = c.feed-fed.ensures in
    let rest = c.loop-rest.rest.now in
    let n = c.feed-fed.result.taken in
    let sent : Appends _ _ (take c.feed-fed.result.written c.feed-fed.new.out) = rw c.in_ok-context.ensures at c.write_every.ensures.ok in
    let more = subst (Appends _ _) (fed_put _ _ _ _ f.written f.out_after) sent in (
      done ++ take n rest,
      taken_off-rest _ done rest n split,
      chunk_more _ _ _ done (take n rest) taken f.reader_after,
      written_more _ _ _ _ _ done (take n rest) taken written more,
    )
