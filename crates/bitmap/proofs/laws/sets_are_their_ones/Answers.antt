-- Each clause is a claim that is proved in proofs/.
use Rattle.bitmap.proofs.Bitmaps.{no-one-above, ones-are-taken, made-of-ones, ones-and-zeros}
use Rattle.bitmap.proofs.laws.sets_are_their_ones.Goals as goal

pub returns-clause-no_one_above : goal.returns-clause-no_one_above
returns-clause-no_one_above c = no-one-above

pub returns-clause-ones_are_taken : goal.returns-clause-ones_are_taken
returns-clause-ones_are_taken c = ones-are-taken

pub returns-clause-made_of_ones : goal.returns-clause-made_of_ones
returns-clause-made_of_ones c = made-of-ones

pub returns-clause-ones_and_zeros : goal.returns-clause-ones_and_zeros
returns-clause-ones_and_zeros c = ones-and-zeros
