-- What is claimed of cards one after the other, and of reading and printing in pieces (rule 14.5). Each claim is a clause of a function of
-- src/laws.rt. Statements only.
use Rattle.std.specs.Prelude.{◌≡◌, ◌≤◌, ◌+◌, Result, Err, List, [], ◌∷◌, ◌++◌, length, ℕ}
use Rattle.wire.specs.declared.events.Event.{Event}
use Rattle.wire.specs.declared.events.CardRefusal.{CardRefusal}
use Rattle.card_stream.specs.declared.session.Session.{Session}
use Rattle.card_text.specs.Cards.{event_read, refused_with}
use Rattle.card_stream.specs.Sessions.{counted, card_given, card_number}
use Rattle.card_stream.specs.declared.reader.CardReader.{CardReader}
use Rattle.card_stream.specs.Reader.{session_of, blank_reader, chunk_next, chunks_next}
use Rattle.card_text.specs.Lines.{most_bytes}
use Rattle.card_stream.specs.Feed.{replay_text, feed_text, chunks_text, bytes_taken}

-- A refused card is counted, and changes nothing else (rule 10.31).
abbrev pub RefusedCardKeeps : Type 0
RefusedCardKeeps = (s : Session) (read : Result Event CardRefusal) (k : CardRefusal) → (card_given s read).outcome ≡ Err k → (card_given s read).session ≡ counted s

-- The number that a card is refused with, 0 where it is accepted, is told by its line and the record alone (rules 14.3, 10.30).
abbrev pub CardNumbersTold : Type 0
CardNumbersTold = (s : Session) (line : List ℕ) → refused_with (card_given s (event_read line)).outcome ≡ card_number s.manager line

-- The bytes of the chunks, one after the other.
abbrev pub joined : List (List ℕ) → List ℕ
joined [] = []
joined (c ∷ cs) = c ++ joined cs

-- Where a chunk ends changes nothing in what is read.
abbrev pub ReadInChunks : Type 0
ReadInChunks = (r : CardReader) (a b : List ℕ) → chunk_next r (a ++ b) ≡ chunk_next (chunk_next r a) b

-- Whatever the chunks are, the session that they leave is the one that the whole input leaves.
abbrev pub SessionOfWhole : Type 0
SessionOfWhole = (chunks : List (List ℕ)) → (chunks_next blank_reader chunks).session ≡ session_of (joined chunks)

-- Where a chunk ends changes nothing in what is printed.
abbrev pub PrintedInChunks : Type 0
PrintedInChunks = (r : CardReader) (a b : List ℕ) → feed_text r (a ++ b) ≡ feed_text r a ++ feed_text (chunk_next r a) b

-- Whatever the chunks are, what is printed is what the whole input prints.
abbrev pub PrintedOfWhole : Type 0
PrintedOfWhole = (chunks : List (List ℕ)) → chunks_text blank_reader chunks ≡ replay_text (joined chunks)

-- Where there is room for what a chunk prints and for the most that a card gives, all of its bytes are taken.
abbrev pub TakenWithRoom : Type 0
TakenWithRoom = (r : CardReader) (input : List ℕ) (room : ℕ) → length (feed_text r input) + most_bytes ≤ room → bytes_taken r input room ≡ length input
