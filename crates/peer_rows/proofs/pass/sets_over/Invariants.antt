-- The sets and the count have the ids below i as the pass puts them there.
use Rattle.peer_rows.proofs.Turn.{Marked}
use Rattle.peer_rows.proofs.pass.sets_over.Given as goal

abbrev pub invariant-loop-i : goal.invariant-loop-i
invariant-loop-i g l = Marked (g.L.Look.pass l.rule) l.me l.n l.rows l.first l.second l.count l.i
