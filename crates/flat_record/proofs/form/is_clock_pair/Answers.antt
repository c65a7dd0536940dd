-- 1.0 is the quotient of the rate 100.
use borrow.Author.Tests.{eq-eqb}
use Rattle.std.proofs.Common.{refl}
use lib.Ieee.{of_bits, of_int, div}
use Rattle.lease.specs.Drift.{ratio}
use Rattle.flat_record.proofs.form.is_clock_pair.Goals as goal

pub returns-then-drifting-eq0 : goal.returns-then-drifting-eq0
unfolding ratio of_bits of_int div
returns-then-drifting-eq0 c = simp (eq-eqb _ _ c.if-drifting-eq0.true) refl
