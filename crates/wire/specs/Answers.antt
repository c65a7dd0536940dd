-- An answer as the record that crosses to C (rule 13.4): 0 or the number of its refusal, at most three lines of plain numbers, and the
-- timers that fired. Definitions only.
use Rattle.std.specs.Prelude.{ℕ, [], Option, None, Some, Result, Ok, Err}
use Rattle.lease.specs.declared.Refusal.{Refusal}
use Rattle.lease.specs.declared.Line.{Line}
use Rattle.lease.specs.Types.{Bitmap}
use Rattle.lease.specs.declared.Lines.{Lines}
use Rattle.lease.specs.declared.Lines.TheVariants as L
use Rattle.lease.specs.declared.FiredTimers.{FiredTimers}
use Rattle.lease.specs.declared.Advanced.{Advanced}
use Rattle.lease.specs.Calls.{fired_in}
use Rattle.lease.specs.Fired.{fired_array}
use Rattle.lease.specs.Refusals.{refusal_number}
use Rattle.wire.specs.declared.lines.LineC.{LineC}
use Rattle.wire.specs.Lines.{no_line, line_of, fired_line, set_line, count_line, time_left_line}
use Rattle.wire.specs.declared.answers.AnswerC.{AnswerC}

-- Accepted, with that many lines and no timer.
abbrev pub accepted : ℕ → LineC → LineC → LineC → AnswerC
accepted n a b c = record { refused = 0; count = n; one = a; two = b; three = c; fired = fired_array [] }

-- Refused by that number, with no line and no timer.
unfoldable pub refused_answer : ℕ → AnswerC
refused_answer k = record { refused = k; count = 0; one = no_line; two = no_line; three = no_line; fired = fired_array [] }

unfoldable pub no_lines : AnswerC
no_lines = accepted 0 no_line no_line no_line

unfoldable pub one_line : LineC → AnswerC
one_line a = accepted 1 a no_line no_line

unfoldable pub two_lines : LineC → LineC → AnswerC
two_lines a b = accepted 2 a b no_line

unfoldable pub lines_answer : Lines → AnswerC
lines_answer L.None = no_lines
lines_answer (L.One a) = one_line (line_of a)
lines_answer (L.Two a b) = two_lines (line_of a) (line_of b)
lines_answer (L.Three a b c) = accepted 3 (line_of a) (line_of b) (line_of c)

unfoldable pub notice_answer : Result Lines Refusal → AnswerC
notice_answer (Err k) = refused_answer (refusal_number k)
notice_answer (Ok lines) = lines_answer lines

-- What fired, and the quiet-end line after it, if there is one.
unfoldable pub fired_answer : Bitmap → Bitmap → Option Line → AnswerC
fired_answer sent held None = one_line (fired_line sent held)
fired_answer sent held (Some line) = two_lines (fired_line sent held) (line_of line)

unfoldable pub advance_lines : Result Advanced Refusal → AnswerC
advance_lines (Err k) = refused_answer (refusal_number k)
advance_lines (Ok a) = fired_answer a.sent a.held a.quiet_end

abbrev pub with_fired : AnswerC → FiredTimers → AnswerC
with_fired a fired = record { refused = a.refused; count = a.count; one = a.one; two = a.two; three = a.three; fired = fired }

-- And the timers in order.
unfoldable pub advance_answer : Result Advanced Refusal → AnswerC
advance_answer outcome = with_fired (advance_lines outcome) (fired_in outcome)

unfoldable pub plain_answer : Result (Unit {0}) Refusal → AnswerC
plain_answer (Err k) = refused_answer (refusal_number k)
plain_answer (Ok tt) = no_lines

unfoldable pub set_answer : Result Bitmap Refusal → AnswerC
set_answer (Err k) = refused_answer (refusal_number k)
set_answer (Ok set) = one_line (set_line set)

unfoldable pub count_answer : Result ℕ Refusal → AnswerC
count_answer (Err k) = refused_answer (refusal_number k)
count_answer (Ok n) = one_line (count_line n)

unfoldable pub time_left_answer : Result (Option ℕ) Refusal → AnswerC
time_left_answer (Err k) = refused_answer (refusal_number k)
time_left_answer (Ok left) = one_line (time_left_line left)
