-- A whole input fed at once, and its end. Assumes nothing.
use Prim.Native.Nat.{ℕ, ◌+◌, ◌-◌, ◌<◌, ◌≤◌}
use mathlib.Core.Path.{◌≡◌, refl, sym, ap, ◌∙◌}
use mathlib.Core.Bool.{Bool, true, false}
use mathlib.Core.List.{List, [], ◌∷◌, ◌++◌, append-nil}
use native.Mathlib.Omega.{arith}
use borrow.Author.Tests.{le-leb, leb-true, lt-ltb, le-ltb}
use borrow.Rule.Slice.PartMut.{put_mid}
use lib.Dec.{leb}
use lib.ListN.{length, take, drop, length-append, length-drop}
use lib.Seq.{sets}
use Rattle.std.proofs.lemmas.List.{take_all}
use Rattle.card_text.specs.Lines.{laid, line_bytes}
use Rattle.card_text.proofs.Text.{sets-laid}
use Rattle.card_text.proofs.LineText.{laid_behind}
use Rattle.card_stream.specs.declared.reader.CardReader.{CardReader}
use Rattle.card_stream.specs.Reader.{blank_reader, chunk_next}
use Rattle.card_stream.specs.Feed.{feed_text, last_text, last_bytes, chunks_text, replay_text, bytes_taken}
use Rattle.card_stream.proofs.Printing.{whole}
use Rattle.card_stream.proofs.Bytes.{taken-with-room, last_length}
use Rattle.card_stream_c.specs.Replay.{written_text, WrittenWhole}

-- ---- t bytes are taken

-- and not all
pub stopped : (input : List ℕ) (room t : ℕ) → t ≡ bytes_taken blank_reader input room → t < length input → written_text input room ≡ feed_text blank_reader (take t input)
unfolding written_text
stopped input room t e h = rw (← e, lt-ltb t (length input) h) (append-nil (feed_text blank_reader (take t input)))

-- or all
ended :
    (input : List ℕ) (room t : ℕ) → t ≡ bytes_taken blank_reader input room → length input ≤ t
    → written_text input room ≡ feed_text blank_reader (take t input) ++ last_bytes (chunk_next blank_reader (take t input)) (room - length (feed_text blank_reader (take t input)))
unfolding written_text
ended input room t e h = rw (← e, le-ltb t (length input) h) refl

-- ---- the end

-- it fits in the room
fits : (r : CardReader) (room : ℕ) → length (last_bytes r room) ≤ room
unfolding last_bytes
fits r room = go (leb line_bytes room) refl
  where
    go : (t : Bool) → leb line_bytes room ≡ t → length (last_bytes r room) ≤ room
    go true e = rw e (omega (arith, last_length r, leb-true line_bytes room e))
    go false e = rw e (omega arith)

-- both calls, one behind the other: n bytes are written, then m
pub both :
    (input xs ys zs : List ℕ) (r : CardReader) (t n m : ℕ) → t ≡ bytes_taken blank_reader input (length xs) → length input ≤ t → length ys ≡ length xs → n ≤ length ys
    → r ≡ chunk_next blank_reader (take t input) → n ≡ length (feed_text blank_reader (take t input)) → ys ≡ laid (feed_text blank_reader (take t input)) xs
    → m ≡ length (last_bytes r (length (take (length ys - n) (drop n ys)))) → zs ≡ sets (take (length ys - n) (drop n ys)) 0 (last_bytes r (length (take (length ys - n) (drop n ys))))
    → (n + m ≡ length (written_text input (length xs))) × (put_mid n (length ys - n) ys zs ≡ laid (written_text input (length xs)) xs)
both input xs ys zs r t n m e k q u s f g l z =
    let a = feed_text blank_reader (take t input) in
    let b = last_bytes (chunk_next blank_reader (take t input)) (length xs - length a) in
    let part = take (length ys - n) (drop n ys) in
    let rest : part ≡ drop n ys = take_all (length ys - n) (drop n ys) (omega (arith, length-drop n ys)) in
    let room : length part ≡ length xs - length a = ap length rest ∙ length-drop n ys ∙ rw (q, f) refl in
    let end : last_bytes r (length part) ≡ b = rw (s, room) refl in
    let behind : zs ≡ laid b part = z ∙ ap (sets part 0) end ∙ sets-laid part b (omega (arith, room, fits (chunk_next blank_reader (take t input)) (length xs - length a))) in
    let text : a ++ b ≡ written_text input (length xs) = sym (ended input (length xs) t e k) in
    let put : put_mid n (length ys - n) ys zs ≡ laid (a ++ b) xs = laid_behind a b xs ys zs n f g behind in
    (omega (arith, f, l ∙ ap length end, sym (length-append a b) ∙ ap length text), put ∙ ap (λ (x : List ℕ). laid x xs) text)

-- ---- with room

-- the lines of the bytes, and those of the end
in-two : (input : List ℕ) → feed_text blank_reader input ++ last_text (chunk_next blank_reader input) ≡ replay_text input
unfolding chunks_text
in-two input = rw (append-nil input) at (whole (input ∷ []))

ends : (r : CardReader) (room : ℕ) → line_bytes ≤ room → last_bytes r room ≡ last_text r
unfolding last_bytes
ends r room h = rw (le-leb line_bytes room h) refl

pub written_whole : (input : List ℕ) (room : ℕ) → WrittenWhole input room
written_whole input room h =
    let a = feed_text blank_reader input in
    let r = chunk_next blank_reader input in
    let lengths = sym (length-append a (last_text r)) ∙ ap length (in-two input) in
    let taken : bytes_taken blank_reader input room ≡ length input = taken-with-room blank_reader input room (omega (arith, lengths)) in
    let text = ended input room (length input) (sym taken) (omega arith) in
    let all : written_text input room ≡ a ++ last_bytes r (room - length a) = rw (take_all (length input) input (omega arith)) at text in
    all ∙ ap (λ (x : List ℕ). a ++ x) (ends r (room - length a) (omega (arith, lengths))) ∙ in-two input
