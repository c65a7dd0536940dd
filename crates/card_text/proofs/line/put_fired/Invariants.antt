-- The loop's invariant: the lines of the timers so far are laid.
use Rattle.std.proofs.Common.{◌≡◌, take}
use Rattle.card_text.specs.Lines.{text_of, laid, timer_lines}
use Rattle.card_text.proofs.line.put_fired.Given as goal

abbrev pub invariant-loop-i : goal.invariant-loop-i
invariant-loop-i l = l.out ≡ laid (text_of (timer_lines l.num (take l.i l.listed))) l.initial.out
