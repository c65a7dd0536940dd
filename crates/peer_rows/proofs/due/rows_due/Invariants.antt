-- The earliest of the ids so far.
use Rattle.std.proofs.Common.{◌≡◌}
use Rattle.peer_rows.specs.Due.{rows_due}
use Rattle.peer_rows.proofs.due.rows_due.Given as goal

abbrev pub invariant-loop-row : goal.invariant-loop-row
invariant-loop-row l = l.earliest ≡ rows_due l.row-index l.rows
