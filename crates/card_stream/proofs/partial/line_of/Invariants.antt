-- The loop's invariant: the bytes so far are held.
use Rattle.std.proofs.Common.{take}
use Rattle.card_stream.specs.Partials.{Holds}
use Rattle.card_stream.proofs.partial.line_of.Given as goal

abbrev pub invariant-loop-b : goal.invariant-loop-b
invariant-loop-b l = Holds l.line (take l.b-index l.bytes)
