-- Output lines (rule 14.4): code (2 columns), number (21), peer (4), first (21), second (21). What lines a card gives, and how a line is
-- read back. Definitions only.
use Rattle.std.specs.Prelude.{ℕ, ◌+◌, ◌*◌, Bool, false, cond, List, [], ◌∷◌, ◌++◌, leb, length, drop, Option, Some, None, Result, Ok, Err}
use Rattle.lease.specs.declared.Line.{Line}
use Rattle.lease.specs.declared.Lines.{Lines}
use Rattle.lease.specs.declared.Lines.TheVariants as L
use Rattle.lease.specs.declared.FiredTimer.{FiredTimer}
use Rattle.lease.specs.Fired.{fired_room, listed_in}
use Rattle.card_text.specs.FiveColumns.{five_columns, five_read}
use Rattle.card_text.specs.Text.{lines_read}
use Rattle.wire.specs.declared.lines.LineC.{LineC}
use Rattle.wire.specs.Lines.{line_c, line_of}
use Rattle.wire.specs.declared.events.CardGiven.{CardGiven}
use Rattle.wire.specs.declared.events.CardRefusal.{CardRefusal}
use Rattle.wire.specs.declared.events.CardGiven.TheVariants as O
use Rattle.wire.specs.Refusals.{card_refusal_number}

-- ---- lines as bytes

-- A line, without its newline.
unfoldable pub line_columns : LineC → List ℕ
line_columns l = five_columns 2 21 4 21 21 l.code l.number l.peer l.first l.second

-- And with it.
unfoldable pub line_text : LineC → List ℕ
line_text l = line_columns l ++ (10 ∷ [])

unfoldable pub text_of : List LineC → List ℕ
text_of [] = []
text_of (l ∷ ls) = line_text l ++ text_of ls

-- Text laid over the start of bytes.
abbrev pub laid : List ℕ → List ℕ → List ℕ
laid text bytes = text ++ drop (length text) bytes

-- ---- the lines of what a card gives

-- 14 a fired sent timer, 15 a fired held timer.
abbrev pub timer_line : ℕ → FiredTimer → LineC
timer_line num t = line_c (cond t.held 15 14) num t.id 0 0

-- One for each timer of a list, in its order (rule 8.3).
unfoldable pub timer_lines : ℕ → List FiredTimer → List LineC
timer_lines num [] = []
timer_lines num (t ∷ ts) = timer_line num t ∷ timer_lines num ts

-- 1 to 13, the actions of a notice, in their order (rule 7.14).
unfoldable pub notice_lines : Lines → List LineC
notice_lines L.None = []
notice_lines (L.One a) = line_of a ∷ []
notice_lines (L.Two a b) = line_of a ∷ line_of b ∷ []
notice_lines (L.Three a b c) = line_of a ∷ line_of b ∷ line_of c ∷ []

-- Behind the fired timers (rule 8.4). No card starts quiet time, so that no list of cards from set-up on gives it.
unfoldable pub quiet_lines : Option Line → List LineC
quiet_lines None = []
quiet_lines (Some line) = line_of line ∷ []

-- 20 a refused card: first is the refusal, second the card's number. Set-up prints nothing.
unfoldable pub outcome_lines : ℕ → Result CardGiven CardRefusal → List LineC
outcome_lines card (Err k) = line_c 20 0 0 (card_refusal_number k) card ∷ []
outcome_lines card (Ok O.Done) = []
outcome_lines card (Ok (O.Acted lines)) = notice_lines lines
outcome_lines card (Ok (O.Fired num fired end)) = timer_lines num.0 (listed_in fired) ++ quiet_lines end

abbrev pub outcome_text : ℕ → Result CardGiven CardRefusal → List ℕ
outcome_text card outcome = text_of (outcome_lines card outcome)

-- ---- the room for them, in bytes

-- A line with its newline.
abbrev pub line_bytes : ℕ
line_bytes = 70

abbrev pub two_lines : ℕ
two_lines = 140

-- A notice's lines.
abbrev pub notice_bytes : ℕ
notice_bytes = 3 * line_bytes

-- The lines of all timers that can fire at once.
abbrev pub timers_bytes : ℕ
timers_bytes = fired_room * line_bytes

-- The most that a card gives: those, and the quiet-end line.
abbrev pub most_bytes : ℕ
most_bytes = timers_bytes + line_bytes

unfoldable pub room_of : Result CardGiven CardRefusal → ℕ
room_of (Err k) = line_bytes
room_of (Ok O.Done) = 0
room_of (Ok (O.Acted lines)) = notice_bytes
room_of (Ok (O.Fired num fired end)) = most_bytes

-- ---- writing a line by itself

-- The numbers have room in the narrow columns; any number of 64 bits has in the wide ones.
unfoldable pub line_fits : LineC → Bool
line_fits l = cond (leb l.code 99) (leb l.peer 9999) false

-- Whether so many bytes have room for the line.
unfoldable pub can_write_line : LineC → ℕ → Bool
can_write_line l room = cond (leb line_bytes room) (line_fits l) false

-- ---- reading lines back

-- A line without its newline: 69 columns, a number in each field.
unfoldable pub line_read : List ℕ → Option LineC
line_read line = five_read line_c 2 21 4 21 21 line

-- The lines of a text, none for each that is not of the form or has no newline.
abbrev pub lines_in : List ℕ → List (Option LineC)
lines_in text = lines_read line_read None [] text
