-- 1.0 is the quotient of the rate 100.
use borrow.Author.Tests.{eq-eqb}
use lib.Ieee.{of_bits, of_int, div}
use Rattle.lease.specs.Drift.{ratio}
use Rattle.flat_record.proofs.RowTests.{and_true}
use Rattle.flat_record.proofs.sound.is_sound_clock.Goals as goal

pub returns-then-drifting-eq0-clause-sound : goal.returns-then-drifting-eq0-clause-sound
unfolding ratio of_bits of_int div
returns-then-drifting-eq0-clause-sound c = simp (eq-eqb _ _ c.if-drifting-eq0.true) (and_true _)
