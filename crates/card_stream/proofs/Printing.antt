-- Feeding a chunk at a time: where a chunk ends changes nothing. Assumes nothing.
use Prim.Native.Nat.{ℕ}
use mathlib.Core.Path.{◌≡◌, refl, sym, ◌∙◌}
use mathlib.Core.Bool.{Bool, true, false}
use mathlib.Core.List.{List, [], ◌∷◌, ◌++◌, append_assoc, append-nil}
use native.Mathlib.Omega.{arith}
use borrow.Author.Tests.{ne_eqb}
use lib.Dec.{eqb}
use lib.ListN.{length, take, drop}
use lib.Seq.{take_at}
use Rattle.card_text.specs.Lines.{laid}
use Rattle.card_stream.specs.declared.reader.CardReader.{CardReader}
use Rattle.card_text.specs.Text.{lines_read}
use Rattle.card_text.specs.Cards.{cards_from}
use Rattle.card_stream.specs.Reader.{blank_reader, ended_by, line_given, last_given, ended, kept_in, byte_next, chunk_next, HasRead}
use Rattle.card_stream.specs.Claims.{joined, PrintedInChunks, PrintedOfWhole}
use Rattle.card_stream.specs.Partials.{Holds}
use Rattle.card_stream.proofs.Reading.{kept, read}
use Rattle.card_stream.proofs.Reading as reader
use Rattle.card_stream.specs.Feed.{given_text, cards_text, replay_text, byte_text, feed_text, last_text, chunks_text, Fed}

pub chunks : PrintedInChunks
unfolding feed_text chunk_next
chunks r [] b = refl
chunks r (x ∷ a) b = rw (chunks (byte_next r x) a b, append_assoc (byte_text r x) (feed_text (byte_next r x) a)) refl

-- ---- the whole input

-- the end
last : (r : CardReader) (line : List ℕ) → Holds r.partial line → last_text r ≡ cards_text r.session (cards_from line [])
unfolding last_text last_given lines_read cards_text
last r [] h = rw h.0
last r (b ∷ line) h = rw (ne_eqb r.partial.filled 0 (λ q. omega arith)) (sym (append-nil (given_text (last_given r))))

fed : (r : CardReader) (line bs : List ℕ) → Holds r.partial line → feed_text r bs ++ last_text (chunk_next r bs) ≡ cards_text r.session (cards_from line bs)
unfolding feed_text chunk_next byte_next lines_read cards_text line_given ended_by
fed r line [] h = last r line h
fed r line (b ∷ bs) h =
    go (eqb b 10) refl (fed (ended r) [] bs (refl, h.1, λ m. refl)) (fed (kept_in r b) (line ++ (b ∷ [])) bs (kept r.partial line b h))
  where
    go : (t : Bool) → eqb b 10 ≡ t → feed_text (ended r) bs ++ last_text (chunk_next (ended r) bs) ≡ cards_text (ended r).session (cards_from [] bs) → feed_text (kept_in r b) bs ++ last_text (chunk_next (kept_in r b) bs) ≡ cards_text r.session (cards_from (line ++ (b ∷ [])) bs) → feed_text r (b ∷ bs) ++ last_text (chunk_next r (b ∷ bs)) ≡ cards_text r.session (cards_from line (b ∷ bs))
    go true e n k = rw (e, append_assoc, n, read r.partial line h)
    go false e n k = rw e k

-- chunk after chunk is the chunks joined
joins : (r : CardReader) (cs : List (List ℕ)) → chunks_text r cs ≡ feed_text r (joined cs) ++ last_text (chunk_next r (joined cs))
unfolding chunks_text feed_text chunk_next
joins r [] = refl
joins r (c ∷ cs) = rw (joins (chunk_next r c) cs, reader.chunks r c (joined cs), chunks r c (joined cs), append_assoc)

pub whole : PrintedOfWhole
unfolding replay_text blank_reader
whole cs = joins blank_reader cs ∙ fed blank_reader [] (joined cs) (refl, refl, λ m. refl)

-- ---- the calls, one after the other

-- what a chunk writes goes behind what was written before
pub fed-more :
    (r next : CardReader) (before chunk out new : List ℕ) (n : ℕ) → HasRead r before → next ≡ chunk_next r chunk → n ≡ length (feed_text r chunk)
    → new ≡ laid (feed_text r chunk) out → Fed next before chunk (take n new)
fed-more r next before chunk out new n h e k l =
    let text : take n new ≡ feed_text r chunk = rw l (take_at (feed_text r chunk) (drop (length (feed_text r chunk)) out) n (sym k)) in
    (reader.has-read r next before chunk e h, rw (text, h) (chunks blank_reader before chunk))

-- and what the end writes behind all of it
pub fed-last :
    (r : CardReader) (input out new : List ℕ) (n : ℕ) → HasRead r input → n ≡ length (last_text r) → new ≡ laid (last_text r) out
    → feed_text blank_reader input ++ take n new ≡ replay_text input
unfolding replay_text blank_reader
fed-last r input out new n h k l =
    let text : take n new ≡ last_text r = rw l (take_at (last_text r) (drop (length (last_text r)) out) n (sym k)) in
    rw (text, h) (fed blank_reader [] input (refl, refl, λ m. refl))
