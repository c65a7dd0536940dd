-- The loop's invariant: as many ids as were gone through are laid over the slice from its start.
use Rattle.std.proofs.Common.{◌≡◌, length}
use mathlib.Core.List.{◌++◌}
use lib.ListN.{take, drop}
use Rattle.bitmap.specs.Bitmaps.{is_one}
use Rattle.bitmap.specs.Operations.{ids_below}
use Rattle.bitmap.proofs.lists.write_ones.Given as goal

abbrev pub invariant-loop-at : goal.invariant-loop-at
invariant-loop-at l = l.out ≡ take (length l.yielded) (ids_below (is_one l.fn.b) l.fn.b.size) ++ drop (length l.yielded) l.initial.out
