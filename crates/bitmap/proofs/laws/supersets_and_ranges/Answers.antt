-- Each clause is a claim that is proved in proofs/.
use Rattle.bitmap.proofs.Bitmaps.{superset-has-all, no-range}
use Rattle.bitmap.proofs.laws.supersets_and_ranges.Goals as goal

pub returns-clause-superset_has_all : goal.returns-clause-superset_has_all
returns-clause-superset_has_all c = superset-has-all

pub returns-clause-no_range : goal.returns-clause-no_range
returns-clause-no_range c = no-range
