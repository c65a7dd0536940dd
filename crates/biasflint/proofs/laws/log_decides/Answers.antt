use Rattle.biasflint.proofs.CardHistory.{host-log-theorem}
use Rattle.biasflint.proofs.laws.log_decides.Goals as goal

pub returns : goal.returns
returns c = record { cards = host-log-theorem }
