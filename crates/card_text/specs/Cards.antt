-- A card as a line (rule 14.1): six numbers in fixed columns, code (2 columns), number (21), peer (4), size (4), first (21), second (21).
-- How a card is written, and how a line is read. Definitions only.
use Rattle.std.specs.Prelude.{ℕ, Bool, false, cond, Option, Some, None, List, [], ◌∷◌, ◌++◌, eqb, leb, length, Result, Ok, Err}
use Rattle.std.specs.List.{between}
use Rattle.card_text.specs.Columns.{column, number_of}
use Rattle.card_text.specs.Text.{lines_read}
use Rattle.wire.specs.declared.calls.CallC.{CallC}
use Rattle.wire.specs.declared.events.Event.{Event}
use Rattle.wire.specs.Events.{card, is_card, event_of, card_of, is_carried}
use Rattle.wire.specs.Refusals.{card_refusal_number}
use Rattle.wire.specs.declared.events.CardRefusal.{CardRefusal}
use Rattle.wire.specs.declared.events.CardRefusal.TheVariants.{NotOfForm, NoCard}

-- ---- writing

-- A card, without its newline.
unfoldable pub card_text : CallC → List ℕ
card_text c = column 2 c.code ++ column 21 c.number ++ column 4 c.peer ++ column 4 c.size ++ column 21 c.first ++ column 21 c.second

-- And with it.
abbrev pub card_line : CallC → List ℕ
card_line c = card_text c ++ (10 ∷ [])

-- The cards of events, one after the other.
unfoldable pub events_text : List Event → List ℕ
events_text [] = []
events_text (e ∷ es) = card_line (card_of e) ++ events_text es

-- Whether so many bytes have room for the card of the event.
unfoldable pub can_write_card : Event → ℕ → Bool
can_write_card e room = cond (leb 74 room) (is_carried e) false

-- ---- reading a line

-- The six numbers of its columns, a number in each.
abbrev pub numbers_in : Option ℕ → Option ℕ → Option ℕ → Option ℕ → Option ℕ → Option ℕ → Option CallC
numbers_in (Some code) (Some num) (Some peer) (Some size) (Some first) (Some second) = Some (card code num peer size first second)
numbers_in code num peer size first second = None

-- A line without its newline: 73 columns, a number in each field.
unfoldable pub card_read : List ℕ → Option CallC
card_read line =
    cond (eqb (length line) 73)
    (numbers_in (number_of (between 0 2 line)) (number_of (between 2 23 line)) (number_of (between 23 27 line)) (number_of (between 27 31 line)) (number_of (between 31 52 line)) (number_of (between 52 73 line)))
    None

abbrev pub event_in : Option CallC → Result Event CardRefusal
event_in None = Err NotOfForm
event_in (Some c) = cond (is_card c) (Ok (event_of c)) (Err NoCard)

-- The event of a line, or why there is none: first the form, then the numbers (rule 14.3).
unfoldable pub event_read : List ℕ → Result Event CardRefusal
event_read line = event_in (card_read line)

-- ---- the refusal as a number

abbrev pub form_number : Option CallC → ℕ
form_number None = 21
form_number (Some c) = cond (is_card c) 0 22

-- By the line alone: 21 where it is not of the form (rule 10.21), 22 where its numbers are no card (rule 10.22), 0 where it is one.
unfoldable pub line_number : List ℕ → ℕ
line_number line = form_number (card_read line)

-- Of an answer: 0 where it is no refusal.
abbrev pub refused_with : {T : Type 0} → Result T CardRefusal → ℕ
refused_with (Ok x) = 0
refused_with (Err k) = card_refusal_number k

-- ---- reading an input

-- What its lines are read as, `line` being what stands since the last newline. A line that has no newline is not of the form.
abbrev pub cards_from : List ℕ → List ℕ → List (Result Event CardRefusal)
cards_from line input = lines_read event_read (Err NotOfForm) line input

-- The cards of an input (rule 14.5).
abbrev pub cards_in : List ℕ → List (Result Event CardRefusal)
cards_in input = cards_from [] input
