-- The session is that of what was read.
use Rattle.std.proofs.Common.{rules}
use Rattle.card_stream.specs.Reader.{end_next, last_given}
use Rattle.card_stream.proofs.Reading.{read-whole}
use Rattle.card_stream.proofs.reader.CardReader.take_end.Goals as goal

pub returns-then-self-eq0-clause-whole : goal.returns-then-self-eq0-clause-whole
unfolding end_next last_given
returns-then-self-eq0-clause-whole c = λ input h. read-whole c.args.self.now c.args.self.now input (search rules) h

pub returns-clause-whole : goal.returns-clause-whole
unfolding end_next last_given
returns-clause-whole c = λ input h. read-whole c.args.self.now c.end_line.new.self input (search rules) h
