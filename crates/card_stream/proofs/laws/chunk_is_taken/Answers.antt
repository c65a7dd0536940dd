use Rattle.card_stream.proofs.Bytes.{taken-with-room}
use Rattle.card_stream.proofs.laws.chunk_is_taken.Goals as goal

pub returns : goal.returns
returns c = taken-with-room
