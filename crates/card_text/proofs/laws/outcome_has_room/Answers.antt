use Rattle.card_text.proofs.Lines.{outcome-has-room}
use Rattle.card_text.proofs.laws.outcome_has_room.Goals as goal

pub returns : goal.returns
returns c = outcome-has-room
