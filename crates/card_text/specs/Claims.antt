-- What is claimed of numbers in columns, of event cards and of output lines (rule 14.6). Each claim is a clause of a function of
-- src/laws.rt. Statements only.
use Rattle.std.specs.Prelude.{ℕ, suc, ◌^◌, ◌≤◌, ◌<◌, ◌≡◌, true, List, [], ◌∷◌, length, map, Some, Ok, Result}
use Rattle.card_text.specs.Columns.{column, max_number, number_of}
use Rattle.wire.specs.declared.calls.CallC.{CallC}
use Rattle.wire.specs.declared.lines.LineC.{LineC}
use Rattle.wire.specs.declared.events.Event.{Event}
use Rattle.wire.specs.declared.events.CardGiven.{CardGiven}
use Rattle.wire.specs.declared.events.CardRefusal.{CardRefusal}
use Rattle.wire.specs.Events.{card_of, is_carried}
use Rattle.card_text.specs.Cards.{card_text, event_read, events_text, cards_in}
use Rattle.card_text.specs.Lines.{line_columns, line_read, text_of, lines_in, line_fits, outcome_text, room_of, most_bytes}

-- ---- numbers in columns

-- A number that has room in its columns is read back from them.
abbrev pub NumberWrittenIsRead : Type 0
NumberWrittenIsRead = (w n : ℕ) → n < 10 ^ suc w → n ≤ max_number → number_of (column (suc w) n) ≡ Some n

-- Bytes that are read as a number are what that number is written as; it is of 64 bits.
abbrev pub NumberReadIsWritten : Type 0
NumberReadIsWritten = (bs : List ℕ) (n : ℕ) → number_of bs ≡ Some n → (column (length bs) n ≡ bs) × (n ≤ max_number)

-- ---- event cards

-- The numbers of the wide columns are of 64 bits, as the types of the code have them.
abbrev pub WideCard : CallC → Type 0
WideCard c = (c.number ≤ max_number) × (c.first ≤ max_number) × (c.second ≤ max_number)

-- A card can carry the event.
abbrev pub Carried : Event → Type 0
Carried e = WideCard (card_of e) × (is_carried e ≡ true)

abbrev pub AllCarried : List Event → Type 0
AllCarried [] = Unit {0}
AllCarried (e ∷ es) = Carried e × AllCarried es

-- The cards of any events that cards can carry, written one after the other, newlines included, are read as exactly those events, in their
-- order.
abbrev pub CardsWrittenAreRead : Type 0
CardsWrittenAreRead = (es : List Event) → AllCarried es → cards_in (events_text es) ≡ map Ok es

-- A line that is accepted is the card that its event is written as, and a card can carry the event.
abbrev pub CardReadIsWritten : Type 0
CardReadIsWritten = (line : List ℕ) (e : Event) → event_read line ≡ Ok e → (card_text (card_of e) ≡ line) × (is_carried e ≡ true)

-- An input of which each card is accepted is what its events are written as.
abbrev pub CardsReadAreWritten : Type 0
CardsReadAreWritten = (input : List ℕ) (es : List Event) → cards_in input ≡ map Ok es → events_text es ≡ input

-- ---- output lines

-- The wide numbers are of 64 bits.
abbrev pub WideLine : LineC → Type 0
WideLine l = (l.number ≤ max_number) × (l.first ≤ max_number) × (l.second ≤ max_number)

-- The numbers have room in their columns.
abbrev pub HasColumns : LineC → Type 0
HasColumns l = WideLine l × (line_fits l ≡ true)

abbrev pub AllHaveColumns : List LineC → Type 0
AllHaveColumns [] = Unit {0}
AllHaveColumns (l ∷ ls) = HasColumns l × AllHaveColumns ls

-- Any lines with room in their columns, written one after the other, newlines included, are read as exactly those lines, in their order.
abbrev pub LinesWrittenAreRead : Type 0
LinesWrittenAreRead = (ls : List LineC) → AllHaveColumns ls → lines_in (text_of ls) ≡ map Some ls

-- A line that is read is what its numbers are written as.
abbrev pub LineReadIsWritten : Type 0
LineReadIsWritten = (line : List ℕ) (l : LineC) → line_read line ≡ Some l → line_columns l ≡ line

-- What a card gives has room where `room_of` says, and that is never more than `most_bytes`.
abbrev pub OutcomeHasRoom : Type 0
OutcomeHasRoom =
    (card : ℕ) (outcome : Result CardGiven CardRefusal)
    → (length (outcome_text card outcome) ≤ room_of outcome) × (room_of outcome ≤ most_bytes)
