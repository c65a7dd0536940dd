-- The digits so far stand behind i columns that still are blank.
use Rattle.std.proofs.Common.{◌≡◌, ◌≤◌, take, length}
use lib.ListN.{replicate}
use Rattle.card_text.specs.Columns.{column}
use Rattle.card_text.proofs.Places.{put_from}
use Rattle.card_text.proofs.columns.put_digits.Given as goal

abbrev pub invariant-loop-rest : goal.invariant-loop-rest
invariant-loop-rest l =
    record {
      within : l.i ≤ length l.out;
      blank : take l.i l.out ≡ replicate l.i 32;
      put : put_from l.out l.i l.rest ≡ column (length l.initial.out) l.fn.n;
    }

abbrev pub decreases-loop-rest : goal.decreases-loop-rest
decreases-loop-rest l = l.i
