use Rattle.wire.proofs.FlatLaws.{there_and_back, flat-is-record, back-and-there}
use Rattle.wire.proofs.laws.flat_record_loses_nothing.Goals as goal

pub returns-clause-there_and_back : goal.returns-clause-there_and_back
returns-clause-there_and_back c = there_and_back

pub returns-clause-is_record : goal.returns-clause-is_record
returns-clause-is_record c = flat-is-record

pub returns-clause-back_and_there : goal.returns-clause-back_and_there
returns-clause-back_and_there c = back-and-there
