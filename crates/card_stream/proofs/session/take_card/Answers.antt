-- The answer is the rules', so its number is.
use Rattle.card_stream.proofs.Sessions.{number-by}
use Rattle.card_stream.proofs.session.take_card.Goals as goal

pub returns-clause-number : goal.returns-clause-number
returns-clause-number c = λ line e. number-by c.args.s.now c.args.read line c.take_known.result c.take_known.ensures.value e
