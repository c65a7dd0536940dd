-- Rule 7.3, turn by turn: with the ids below k done the rows are cleared below k. k is the number of turns made, from 0 to the bound handed in.
use Rattle.std.proofs.Common.{◌≡◌, true, map}
use Rattle.std.specs.List.{list_all}
use mathlib.Core.List.{◌++◌}
use lib.ListN.{length, drop}
use Rattle.peer_rows.specs.Clearing.{ClearedBelow}
use Rattle.wire.specs.FromFlat.{peer_of}
use Rattle.wire.specs.Form.{is_row}
use Rattle.flat_engine.proofs.clearing.flat_clear_below.Given as goal

-- The rows are those that the loop goes through, as they are now, and the others, as they came.
abbrev pub invariant-loop-p : goal.invariant-loop-p
invariant-loop-p l =
    let rows = l.p-items ++ drop (length l.p-items) l.fn.rows in
    ClearedBelow l.p-index (map peer_of l.fn.rows) (map peer_of rows) × (list_all is_row l.fn.rows ≡ true → list_all is_row rows ≡ true)
