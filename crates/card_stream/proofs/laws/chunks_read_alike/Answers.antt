use Rattle.card_stream.proofs.Reading.{chunks, whole}
use Rattle.card_stream.proofs.laws.chunks_read_alike.Goals as goal

pub returns-clause-anywhere : goal.returns-clause-anywhere
returns-clause-anywhere c = chunks

pub returns-clause-whole : goal.returns-clause-whole
returns-clause-whole c = whole
