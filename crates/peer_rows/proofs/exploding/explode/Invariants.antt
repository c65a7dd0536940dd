-- The ids below i are done.
use Rattle.std.proofs.Common.{◌≡◌, length}
use Rattle.lease.specs.Bitmaps.{capacity}
use Rattle.lease.specs.Tables.{below}
use Rattle.lease.specs.Passes.{row_after}
use Rattle.peer_rows.specs.Rules.{advance_pass}
use Rattle.peer_rows.proofs.exploding.explode.Given as goal

abbrev pub invariant-loop-i : goal.invariant-loop-i
invariant-loop-i l = (length l.rows ≡ capacity) × (l.rows ≡ below l.i (row_after (advance_pass l.to) l.me) l.fn.rows)
