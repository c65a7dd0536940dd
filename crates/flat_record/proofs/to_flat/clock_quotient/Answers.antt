-- 1.0 is the quotient of the rate 100.
use Rattle.std.proofs.Common.{refl}
use lib.Ieee.{of_bits, of_int, div}
use Rattle.lease.specs.Drift.{ratio}
use Rattle.flat_record.proofs.to_flat.clock_quotient.Goals as goal

pub returns-in-True : goal.returns-in-True
unfolding ratio of_bits of_int div
returns-in-True c = simp c.in-True.is refl
