-- The next timer's line, behind those of the timers so far.
use Rattle.std.proofs.Common.{◌≡◌, ◌+◌, false, sym, ◌∙◌, ap, take, length, arith, length-take-le, ◌++◌, ◌*◌}
use Rattle.lease.specs.Fired.{fired_timer}
use Rattle.card_text.specs.Lines.{text_of, line_text, timer_lines}
use Rattle.card_text.proofs.LineText.{laid_behind, fired_next, fired_length}
use Rattle.card_text.proofs.line.put_fired.Goals as goal

pub loop-i-preserved : goal.loop-i-preserved
loop-i-preserved c =
    let w = c.put_line in
    let l = c.loop-i in
    let a = c.args in
    let ts = take c.min.result a.fired.now.timers in
    let before = text_of (timer_lines a.num (take l.i ts)) in
    let next = line_text c.timer_line.result in
    let more : text_of (timer_lines a.num (take (l.i + 1) ts)) ≡ before ++ next = rw c.timer_line.ensures (fired_next a.num ts l.i (fired_timer false 0) c.loop-i-test.true) in
    let place : l.i * 70 ≡ length before = sym (fired_length a.num (take l.i ts) ∙ ap (λ k. k * 70) (length-take-le l.i ts (omega arith))) in
    rw more (laid_behind before next a.out.now l.out w.new.out (l.i * 70) place l.invariant w.ensures.out_after)
