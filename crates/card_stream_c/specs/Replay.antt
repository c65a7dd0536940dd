-- What is written for an input, whatever room is lent; and what is claimed of it. Definitions only.
use Rattle.std.specs.Prelude.{ℕ, ◌+◌, ◌-◌, ◌≤◌, ◌≡◌, cond, ltb, List, [], ◌++◌, length, take}
use Rattle.card_text.specs.Lines.{most_bytes}
use Rattle.card_stream.specs.Reader.{blank_reader, chunk_next}
use Rattle.card_stream.specs.Feed.{feed_text, last_bytes, bytes_taken, replay_text}

-- The bytes that are taken: each while there is room for the most that a card gives.
abbrev pub taken_bytes : List ℕ → ℕ → List ℕ
taken_bytes input room = take (bytes_taken blank_reader input room) input

-- What the end prints, where all bytes are taken and there is room.
abbrev pub end_text : List ℕ → ℕ → List ℕ
end_text input room =
    let bytes = taken_bytes input room in
    cond (ltb (bytes_taken blank_reader input room) (length input)) [] (last_bytes (chunk_next blank_reader bytes) (room - length (feed_text blank_reader bytes)))

-- The lines of the cards that end in them, and the end's.
unfoldable pub written_text : List ℕ → ℕ → List ℕ
written_text input room = feed_text blank_reader (taken_bytes input room) ++ end_text input room

-- Where there is room for all that the input prints and for the most that a card gives, it is written.
abbrev pub WrittenWhole : List ℕ → ℕ → Type 0
WrittenWhole input room = length (replay_text input) + most_bytes ≤ room → written_text input room ≡ replay_text input
