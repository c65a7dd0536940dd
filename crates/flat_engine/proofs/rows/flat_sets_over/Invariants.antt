-- The sets and the count have the ids below i as the pass puts them there.
use Rattle.std.proofs.Common.{map}
use Rattle.peer_rows.proofs.Turn.{Marked}
use Rattle.wire.specs.FromFlat.{peer_of}
use Rattle.flat_engine.proofs.rows.flat_sets_over.Given as goal

abbrev pub invariant-loop-i : goal.invariant-loop-i
invariant-loop-i g l = Marked (g.L.Look.pass l.rule) l.me l.n (map peer_of l.rows) l.first l.second l.count l.i
