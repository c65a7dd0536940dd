-- Each clause is a claim that is proved in proofs/.
use Rattle.bitmap.proofs.ListsLemmas.{listed-count, listed-ones, listed-ascending}
use Rattle.bitmap.proofs.laws.ones_are_listed.Goals as goal

pub returns-clause-as_many : goal.returns-clause-as_many
returns-clause-as_many c = listed-count

pub returns-clause-the_ones : goal.returns-clause-the_ones
returns-clause-the_ones c = listed-ones

pub returns-clause-ascending : goal.returns-clause-ascending
returns-clause-ascending c = listed-ascending
