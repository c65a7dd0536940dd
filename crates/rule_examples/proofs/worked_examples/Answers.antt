use Rattle.rule_examples.proofs.Lists.{worked-examples}
use Rattle.rule_examples.proofs.worked_examples.Goals as goal

pub returns : goal.returns
returns c = worked-examples
