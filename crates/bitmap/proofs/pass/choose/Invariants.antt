-- The loop's invariant: what is chosen so far are the ids below i that the test takes.
use Rattle.std.proofs.Common.{ℕ, Bool, ◌≡◌, ◌≤◌, ◌<◌, ◌^◌}
use Rattle.bitmap.specs.Bitmaps.{number}
use Rattle.bitmap.specs.Tests.{Computes, chosen_below}
use Rattle.bitmap.proofs.pass.choose.Given as goal

abbrev pub invariant-loop-i : goal.invariant-loop-i
invariant-loop-i g l = record {
  below : (p : ℕ → Bool) → Computes (goal.F-post g l.takes) l.size p → l.chosen ≡ chosen_below l.size p l.i;
  set_bound : number l.chosen.set < 2 ^ l.i;
  count_le : l.chosen.count ≤ l.i;
}
