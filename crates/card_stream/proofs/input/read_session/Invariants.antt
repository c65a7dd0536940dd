-- The loop's invariant: the bytes that were read are those that the reader of cards has taken.
use Rattle.std.proofs.Common.{ℕ, List}
use Rattle.std.specs.Io.KnownBytes.{Consumes}
use Rattle.card_stream.specs.Reader.{HasRead}
use Rattle.card_stream.proofs.input.read_session.Given as goal

abbrev pub invariant-loop : goal.invariant-loop
invariant-loop g l = (input : List ℕ) × Consumes (g.R.Read.remaining l.fn.from) (g.R.Read.remaining l.from) input × HasRead l.reader input
