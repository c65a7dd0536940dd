-- What session the cards of an input leave; and the same a byte at a time, in fixed memory (rule 14.5). Definitions only.
use Rattle.std.specs.Prelude.{ℕ, ◌≡◌, cond, List, [], ◌∷◌, eqb, replicate, Option, Some, None, Result, Err}
use Rattle.wire.specs.declared.events.CardGiven.{CardGiven}
use Rattle.wire.specs.declared.events.CardRefusal.{CardRefusal}
use Rattle.wire.specs.declared.events.CardRefusal.TheVariants.{NotOfForm}
use Rattle.wire.specs.declared.events.Event.{Event}
use Rattle.card_text.specs.Cards.{cards_in}
use Rattle.card_stream.specs.Partials.{kept_by, partial_read}
use Rattle.card_stream.specs.declared.session.Session.{Session}
use Rattle.card_stream.specs.declared.session.CardAnswer.{CardAnswer}
use Rattle.card_stream.specs.Sessions.{blank_session, card_given}
use Rattle.card_stream.specs.declared.reader.CardReader.{CardReader}

-- ---- the whole input

-- The session that cards leave: each is taken in the session that the one before it left.
unfoldable pub session_after : Session → List (Result Event CardRefusal) → Session
session_after s [] = s
session_after s (c ∷ cs) = session_after (card_given s c).session cs

-- The session that a whole input leaves.
abbrev pub session_of : List ℕ → Session
session_of input = session_after blank_session (cards_in input)

-- ---- a byte at a time: of a line at most 73 bytes are kept

unfoldable pub blank_reader : CardReader
blank_reader = record { partial = record { filled = 0; columns = replicate 73 0 }; session = blank_session }

-- The line so far ends, and its card was answered so.
unfoldable pub ended_by : CardReader → CardAnswer → CardReader
ended_by r a = record { partial = record { filled = 0; columns = r.partial.columns }; session = a.session }

-- A newline: the card of the line so far.
unfoldable pub line_given : CardReader → CardAnswer
line_given r = card_given r.session (partial_read r.partial)

abbrev pub ended : CardReader → CardReader
ended r = ended_by r (line_given r)

-- Any other byte is kept.
abbrev pub kept_in : CardReader → ℕ → CardReader
kept_in r b = record { partial = kept_by r.partial b; session = r.session }

-- What a byte leaves.
unfoldable pub byte_next : CardReader → ℕ → CardReader
byte_next r b = cond (eqb b 10) (ended r) (kept_in r b)

-- What a chunk leaves.
unfoldable pub chunk_next : CardReader → List ℕ → CardReader
chunk_next r [] = r
chunk_next r (b ∷ bs) = chunk_next (byte_next r b) bs

-- The end of the input: a line that has begun is a card that is not of the form.
unfoldable pub last_given : CardReader → CardAnswer
last_given r = card_given r.session (Err NotOfForm)

unfoldable pub end_next : CardReader → CardReader
end_next r = cond (eqb r.partial.filled 0) r (ended_by r (last_given r))

unfoldable pub end_given : CardReader → Option (Result CardGiven CardRefusal)
end_given r = cond (eqb r.partial.filled 0) None (Some (last_given r).outcome)

-- Chunk after chunk, then the end: a program's loop.
unfoldable pub chunks_next : CardReader → List (List ℕ) → CardReader
chunks_next r [] = end_next r
chunks_next r (c ∷ cs) = chunks_next (chunk_next r c) cs

-- The reader has taken those bytes, in whatever chunks.
abbrev pub HasRead : CardReader → List ℕ → Type 0
HasRead r bytes = r ≡ chunk_next blank_reader bytes
