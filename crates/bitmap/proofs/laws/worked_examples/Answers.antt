-- Each clause is a claim that is proved in proofs/.
use Rattle.bitmap.proofs.Examples.{sizes, ones-above, ranges-and-lists, lent-bytes}
use Rattle.bitmap.proofs.laws.worked_examples.Goals as goal

pub returns-clause-sizes : goal.returns-clause-sizes
returns-clause-sizes c = sizes

pub returns-clause-ones_above : goal.returns-clause-ones_above
returns-clause-ones_above c = ones-above

pub returns-clause-ranges_and_lists : goal.returns-clause-ranges_and_lists
returns-clause-ranges_and_lists c = ranges-and-lists

pub returns-clause-lent_bytes : goal.returns-clause-lent_bytes
returns-clause-lent_bytes c = lent-bytes
