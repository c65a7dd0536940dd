use Rattle.card_text.proofs.Numbers.{written-is-read, read-is-written}
use Rattle.card_text.proofs.laws.numbers_come_back.Goals as goal

pub returns-clause-written_is_read : goal.returns-clause-written_is_read
returns-clause-written_is_read c = written-is-read

pub returns-clause-read_is_written : goal.returns-clause-read_is_written
returns-clause-read_is_written c = read-is-written
