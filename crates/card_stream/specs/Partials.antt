-- The line so far, in fixed memory (rule 14.5): of a line at most 73 bytes are kept, and 74 stands for any number above. Definitions only.
use Rattle.std.specs.Prelude.{ℕ, ◌+◌, ◌≤◌, ◌≡◌, List, cond, eqb, ltb, length, min, set, take, Result, Err}
use Rattle.wire.specs.declared.events.Event.{Event}
use Rattle.wire.specs.declared.events.CardRefusal.{CardRefusal}
use Rattle.wire.specs.declared.events.CardRefusal.TheVariants.{NotOfForm}
use Rattle.card_text.specs.Cards.{event_read, line_number}
use Rattle.card_stream.specs.declared.partial.Partial.{Partial}

-- The line with one byte more.
unfoldable pub kept_by : Partial → ℕ → Partial
kept_by p b =
    cond (ltb p.filled 73) (record { filled = p.filled + 1; columns = set p.columns p.filled b })
    (record { filled = 74; columns = p.columns })

-- What is kept of the bytes of a line: how many there are, up to 74, and they themselves, if they are at most 73.
abbrev pub Holds : Partial → List ℕ → Type 0
Holds p line =
    (p.filled ≡ min (length line) 74) × (length p.columns ≡ 73) × (length line ≤ 73 → take (length line) p.columns ≡ line)

-- The line so far, read as a card.
unfoldable pub partial_read : Partial → Result Event CardRefusal
partial_read p = cond (eqb p.filled 73) (event_read p.columns) (Err NotOfForm)

-- The number that it is refused with, 0 where it is a card.
unfoldable pub partial_number : Partial → ℕ
partial_number p = cond (eqb p.filled 73) (line_number p.columns) 21
