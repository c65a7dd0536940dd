-- The loop's invariant: what the bytes so far leave.
use Rattle.std.proofs.Common.{◌≡◌, ◌≤◌, ◌-◌, length, take}
use Rattle.card_stream.specs.Reader.{chunk_next}
use Rattle.card_stream.specs.Sessions.{Knows}
use Rattle.card_stream.proofs.reader.CardReader.take_chunk.Given as goal

abbrev pub invariant-loop-taken : goal.invariant-loop-taken
invariant-loop-taken l = record { known : Knows l.known l.self.session; bound : l.taken ≤ length l.input; read : l.self ≡ chunk_next l.initial.self (take l.taken l.input) }

abbrev pub decreases-loop-taken : goal.decreases-loop-taken
decreases-loop-taken l = length l.input - l.taken
