-- The ids below i are done, and are in the sets as the pass puts them there.
use Rattle.std.proofs.Common.{◌≡◌}
use mathlib.Core.List.{◌++◌}
use lib.ListN.{drop}
use Rattle.lease.specs.Tables.{below}
use Rattle.lease.specs.Passes.{row_after}
use Rattle.peer_rows.proofs.Turn.{Marked}
use Rattle.peer_rows.proofs.pass.pass_over.Given as goal

-- The rows are those that the loop goes through, and those from the population on.
abbrev pub invariant-loop-i : goal.invariant-loop-i
invariant-loop-i g l =
    let pass = g.R.Rule.pass l.rule in (l.row-items ++ drop l.n l.fn.rows ≡ below l.i (row_after pass l.me) l.fn.rows) × Marked pass l.me l.n l.fn.rows l.first l.second l.count l.i
