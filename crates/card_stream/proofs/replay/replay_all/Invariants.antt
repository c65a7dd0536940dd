-- The loop's invariant: the bytes that were read are those that the reader of cards has taken, and what they print is written.
use Rattle.std.proofs.Common.{ℕ, List}
use Rattle.std.specs.Io.KnownBytes.{Appends, Consumes}
use Rattle.card_stream.specs.Reader.{blank_reader, HasRead}
use Rattle.card_stream.specs.Feed.{feed_text}
use Rattle.card_stream.proofs.replay.replay_all.Given as goal

abbrev pub invariant-loop : goal.invariant-loop
invariant-loop g l =
    (input : List ℕ)
    × Consumes (g.R.Read.remaining l.fn.from) (g.R.Read.remaining l.from) input
    × HasRead l.reader input
    × Appends (g.W.Write.contents l.fn.to) (g.W.Write.contents l.to) (feed_text blank_reader input)
