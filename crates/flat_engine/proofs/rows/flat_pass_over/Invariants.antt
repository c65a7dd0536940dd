-- The ids below i are done, and are in the sets as the pass puts them there.
use Rattle.std.proofs.Common.{◌≡◌, map}
use mathlib.Core.List.{◌++◌}
use lib.ListN.{drop}
use Rattle.lease.specs.Tables.{below}
use Rattle.peer_rows.proofs.Turn.{Marked}
use Rattle.wire.specs.FromFlat.{peer_of}
use Rattle.flat_engine.specs.FlatRows.{flat_row_after}
use Rattle.flat_engine.proofs.rows.flat_pass_over.Given as goal

-- The rows are those that the loop goes through, and those from the population on.
abbrev pub invariant-loop-i : goal.invariant-loop-i
invariant-loop-i g l =
    let pass = g.R.Rule.pass l.rule in (l.p-items ++ drop l.n l.fn.rows ≡ below l.i (flat_row_after pass l.me) l.fn.rows) × Marked pass l.me l.n (map peer_of l.fn.rows) l.first l.second l.count l.i
