-- The columns stand within the input.
use Rattle.std.proofs.Common.{sym, arith, length-take-le}
use Rattle.card_stream.proofs.reader.CardReader.card_in.Goals as goal

pub slice_bounds-read_card-end : goal.slice_bounds-read_card-end
slice_bounds-read_card-end c = sym (length-take-le 73 c.args.input.now (omega arith))
