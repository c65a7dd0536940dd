-- The line that is written is read as it is alone.
use Rattle.std.proofs.Common.{◌∙◌, sym, length, drop}
use lib.Seq.{take_at}
use Rattle.card_text.specs.Lines.{line_text}
use Rattle.card_text.proofs.LineText.{length_line}
use Rattle.card_text.proofs.Lines.{line-comes-back}
use Rattle.card_text.proofs.line.write_line.Goals as goal

pub returns-clause-comes_back : goal.returns-clause-comes_back
returns-clause-comes_back c =
    let l = c.args.l in
    let line = take_at (line_text l) (drop (length (line_text l)) c.args.out.now) 70 (length_line l) in
    rw (c.put_line-length.ensures.out_after, line)
    (line-comes-back l (c.line_fits.ensures.wide, sym c.line_fits.ensures.value ∙ c.if-not-line_fits.false))
