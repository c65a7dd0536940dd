-- What was written before, and the end.
use Rattle.card_stream.proofs.Printing.{fed-last}
use Rattle.card_stream.proofs.feed.finish.Goals as goal

pub returns-clause-whole : goal.returns-clause-whole
returns-clause-whole c = λ room input h.
    let f = c.finish_line.ensures in
    fed-last c.args.reader.now input c.args.out.now c.finish_line.new.out c.finish_line.result h f.value f.out_after
