-- The loop's invariant: what is chosen so far are the ids below i that the test takes.
use Rattle.std.proofs.Common.{rules, ℕ, ◌+◌, Bool, ◌≡◌}
use Rattle.bitmap.specs.Sets.{ids_where, count_where}
use Rattle.bitmap.proofs.SetsLemmas.{ids_where-more, count_where-more}
use Rattle.bitmap.specs.Tests.{chosen_below, chosen_with}
use Rattle.bitmap.proofs.pass.choose.Goals as goal

more : (size : ℕ) (p : ℕ → Bool) (i : ℕ) → chosen_with (chosen_below size p i) (p i) i ≡ chosen_below size p (i + 1)
more size p i = rw (ids_where-more p i, count_where-more p i)

pub loop-i-init : goal.loop-i-init
unfolding ids_where count_where
loop-i-init g c = record { below = λ p e. simp c.none.ensures; set_bound = simp c.none.ensures (search rules); count_le = search rules }

pub loop-i-preserved : goal.loop-i-preserved
loop-i-preserved g c =
    let l = c.loop-i in
    record {
      below = λ p e.
          let on = e l.i c.takes.result (search rules) c.takes.ensures in
          simp (c.chosen_with-chosen.ensures.value, on, l.invariant.below p e) (more c.args.size p l.i);
      set_bound = c.chosen_with-chosen.ensures.set_bound;
      count_le = c.chosen_with-chosen.ensures.count_le;
    }
