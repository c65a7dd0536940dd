use Rattle.card_stream.proofs.Sessions.{refused-keeps}
use Rattle.card_stream.proofs.laws.refused_card_keeps.Goals as goal

pub returns : goal.returns
returns c = refused-keeps
