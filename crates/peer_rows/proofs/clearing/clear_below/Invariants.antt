-- Rule 7.3, turn by turn: with the ids below k done the rows are cleared below k. k is the number
-- of turns made, from 0 to the bound handed in.
use mathlib.Core.List.{◌++◌}
use lib.ListN.{length, drop}
use Rattle.peer_rows.specs.Clearing.{ClearedBelow}
use Rattle.peer_rows.proofs.clearing.clear_below.Given as goal

-- The rows are those that the loop goes through, as they are now, and the others, as they came.
abbrev pub invariant-loop-row : goal.invariant-loop-row
invariant-loop-row l = ClearedBelow l.row-index l.fn.peers (l.row-items ++ drop (length l.row-items) l.fn.peers)
