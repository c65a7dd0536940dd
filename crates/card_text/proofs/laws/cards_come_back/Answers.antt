use Rattle.card_text.proofs.Cards.{cards-written-are-read, read-is-written, cards-read-are-written}
use Rattle.card_text.proofs.laws.cards_come_back.Goals as goal

pub returns-clause-written_are_read : goal.returns-clause-written_are_read
returns-clause-written_are_read c = cards-written-are-read

pub returns-clause-one_read_is_written : goal.returns-clause-one_read_is_written
returns-clause-one_read_is_written c = read-is-written

pub returns-clause-read_are_written : goal.returns-clause-read_are_written
returns-clause-read_are_written c = cards-read-are-written
