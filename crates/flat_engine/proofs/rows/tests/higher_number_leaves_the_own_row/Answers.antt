-- The rows of the test are of the form, by computing.
use mathlib.Core.Path.{refl}
use Rattle.wire.specs.Form.{is_row}
use Rattle.flat_engine.proofs.rows.tests.higher_number_leaves_the_own_row.Goals as goal

pub flat_pass_over-sets-requires-clause-form : goal.flat_pass_over-sets-requires-clause-form
unfolding is_row
flat_pass_over-sets-requires-clause-form g c = refl
