use Rattle.card_stream.proofs.Printing.{chunks, whole}
use Rattle.card_stream.proofs.laws.chunks_print_alike.Goals as goal

pub returns-clause-anywhere : goal.returns-clause-anywhere
returns-clause-anywhere c = chunks

pub returns-clause-whole : goal.returns-clause-whole
returns-clause-whole c = whole
