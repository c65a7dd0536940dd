use Rattle.rule_examples.proofs.Lists.{mistakes-avoided, mistakes-show}
use Rattle.rule_examples.proofs.common_mistakes.Goals as goal

pub returns-clause-rules_answer : goal.returns-clause-rules_answer
returns-clause-rules_answer c = mistakes-avoided

pub returns-clause-mistakes_differ : goal.returns-clause-mistakes_differ
returns-clause-mistakes_differ c = mistakes-show
