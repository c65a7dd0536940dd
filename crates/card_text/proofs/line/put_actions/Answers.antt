-- The line of the number, and the others behind it.
use Rattle.std.proofs.Common.{◌≡◌, ◌∙◌, ap, rules, true, false, length, length-append, arith}
use Rattle.lease.specs.Notices.{line, numbered}
use Rattle.lease.specs.declared.LeaseAction.TheVariants as A
use Rattle.wire.specs.Lines.{line_of}
use Rattle.card_text.specs.Lines.{line_text, text_of, notice_lines}
use Rattle.card_text.proofs.LineText.{higher_first}
use Rattle.card_text.proofs.line.put_actions.Goals as goal

pub returns-clause-value : goal.returns-clause-value
returns-clause-value c =
    let num = c.args.num in
    let higher : c.args.higher ≡ true = search rules in
    let one : c.put_line.result ≡ length (line_text (line_of (line num A.HigherNumber))) = c.put_line.ensures.value ∙ ap (λ l. length (line_text l)) c.line_of.ensures in
    let others = c.put_under-2.ensures.value in
    let both = length-append (line_text (line_of (line num A.HigherNumber))) (text_of (notice_lines (numbered num false c.args.actions.now))) in
    rw (higher, higher_first num c.args.actions.now) (omega (arith, one, others, both))
