-- The loop takes bytes off the rest, and what is gone from it was taken, and its lines were written.
use Rattle.std.proofs.Common.{◌≡◌, ℕ, List, ◌++◌, length}
use Rattle.std.specs.Io.KnownBytes.{Appends}
use Rattle.card_stream.specs.Reader.{chunk_next}
use Rattle.card_stream.specs.Feed.{feed_text}
use Rattle.card_stream.proofs.replay.feed_chunk.Given as goal

abbrev pub invariant-loop-rest : goal.invariant-loop-rest
invariant-loop-rest g l =
    (done : List ℕ)
    × (l.chunk ≡ done ++ l.rest)
    × (l.reader ≡ chunk_next l.fn.reader done)
    × Appends (g.W.Write.contents l.fn.to) (g.W.Write.contents l.to) (feed_text l.fn.reader done)

abbrev pub decreases-loop-rest : goal.decreases-loop-rest
decreases-loop-rest g l = length l.rest
