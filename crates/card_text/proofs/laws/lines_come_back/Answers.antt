use Rattle.card_text.proofs.Lines.{lines-written-are-read, read-is-written}
use Rattle.card_text.proofs.laws.lines_come_back.Goals as goal

pub returns-clause-written_are_read : goal.returns-clause-written_are_read
returns-clause-written_are_read c = lines-written-are-read

pub returns-clause-read_is_written : goal.returns-clause-read_is_written
returns-clause-read_is_written c = read-is-written
