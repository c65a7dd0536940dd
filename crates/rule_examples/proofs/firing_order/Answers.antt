use Rattle.rule_examples.proofs.Lists.{firing-examples}
use Rattle.rule_examples.proofs.firing_order.Goals as goal

pub returns : goal.returns
returns c = firing-examples
