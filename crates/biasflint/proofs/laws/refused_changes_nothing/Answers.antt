use Rattle.biasflint.proofs.CallLaws.{refused-keeps}
use Rattle.biasflint.proofs.laws.refused_changes_nothing.Goals as goal

pub returns : goal.returns
returns c = record { left = refused-keeps }
