-- From bytes to bytes (rules 14.4, 14.5): what a whole input prints, and the same a chunk at a time, as the program reads it. Definitions
-- only.
use Rattle.std.specs.Prelude.{ℕ, suc, ◌-◌, ◌≤◌, ◌≡◌, cond, List, [], ◌∷◌, ◌++◌, eqb, leb, get_or, length, take, Some, Result}
use Rattle.wire.specs.declared.calls.CallC.{CallC}
use Rattle.wire.specs.declared.events.Event.{Event}
use Rattle.wire.specs.declared.events.CardRefusal.{CardRefusal}
use Rattle.card_stream.specs.declared.session.Session.{Session}
use Rattle.card_stream.specs.declared.session.CardAnswer.{CardAnswer}
use Rattle.card_stream.specs.Sessions.{blank_session, card_given}
use Rattle.card_text.specs.Cards.{card_read, cards_in}
use Rattle.card_text.specs.Lines.{outcome_text, line_bytes, most_bytes}
use Rattle.card_stream.specs.declared.reader.CardReader.{CardReader}
use Rattle.card_stream.specs.Reader.{blank_reader, line_given, last_given, byte_next, chunk_next, HasRead}

-- ---- the whole input

-- The lines of a card's answer. A card's number is how many cards there were with it.
unfoldable pub given_text : CardAnswer → List ℕ
given_text a = outcome_text a.session.cards a.outcome

-- Card after card, each taken in the session that the one before it leaves.
unfoldable pub cards_text : Session → List (Result Event CardRefusal) → List ℕ
cards_text s [] = []
cards_text s (c ∷ cs) = given_text (card_given s c) ++ cards_text (card_given s c).session cs

-- What the program prints.
unfoldable pub replay_text : List ℕ → List ℕ
replay_text input = cards_text blank_session (cards_in input)

-- ---- a chunk at a time

-- What a byte prints: where it is a newline, the card's lines.
abbrev pub byte_text : CardReader → ℕ → List ℕ
byte_text r b = cond (eqb b 10) (given_text (line_given r)) []

-- What a chunk prints.
unfoldable pub feed_text : CardReader → List ℕ → List ℕ
feed_text r [] = []
feed_text r (b ∷ bs) = byte_text r b ++ feed_text (byte_next r b) bs

-- No line has begun, and that card stands in front of an input: 73 columns that are its six numbers, and a newline.
abbrev pub CardStands : CardReader → List ℕ → CallC → Type 0
CardStands r input card =
    (r.partial.filled ≡ 0) × (74 ≤ length input) × (get_or input 73 0 ≡ 10) × (card_read (take 73 input) ≡ Some card)

-- What the end of the input prints.
unfoldable pub last_text : CardReader → List ℕ
last_text r = cond (eqb r.partial.filled 0) [] (given_text (last_given r))

-- Chunk after chunk, then the end: the program's loop.
unfoldable pub chunks_text : CardReader → List (List ℕ) → List ℕ
chunks_text r [] = last_text r
chunks_text r (c ∷ cs) = feed_text r c ++ chunks_text (chunk_next r c) cs

-- The reader has taken the chunk behind the bytes before it, and what all of them print is what the bytes before did, and then `written`.
abbrev pub Fed : CardReader → List ℕ → List ℕ → List ℕ → Type 0
Fed next before chunk written =
    HasRead next (before ++ chunk) × (feed_text blank_reader (before ++ chunk) ≡ feed_text blank_reader before ++ written)

-- ---- what the calls answer

-- How many bytes of an input are taken: each while there is room for the most that a card gives.
unfoldable pub bytes_taken : CardReader → List ℕ → ℕ → ℕ
bytes_taken r [] room = 0
bytes_taken r (b ∷ bs) room =
    cond (leb most_bytes room) (suc (bytes_taken (byte_next r b) bs (room - length (byte_text r b)))) 0

-- The end, where there is room for a line.
unfoldable pub last_bytes : CardReader → ℕ → List ℕ
last_bytes r room = cond (leb line_bytes room) (last_text r) []
