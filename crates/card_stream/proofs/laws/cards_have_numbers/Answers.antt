-- The claim is a lemma.
use Rattle.card_stream.proofs.Sessions.{card-number}
use Rattle.card_stream.proofs.laws.cards_have_numbers.Goals as goal

pub returns : goal.returns
returns c = card-number
