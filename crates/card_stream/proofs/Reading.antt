-- Reading a byte at a time: where a chunk ends changes nothing, and the first 73 bytes of a line and how many there are say as much as
-- the line. Assumes nothing.
use Rattle.std.specs.Prelude.{Ok, Err}
use Prim.Native.Nat.{ℕ, ◌<◌, ◌≤◌, ◌+◌, min}
use mathlib.Core.Path.{◌≡◌, refl, sym, ap, ◌∙◌}
use mathlib.Core.Bool.{Bool, true, false}
use mathlib.Core.List.{List, [], ◌∷◌, ◌++◌, append_assoc}
use native.Mathlib.Numerals.{add-one}
use native.Mathlib.Omega.{arith}
use borrow.Author.Tests.{lt-ltb, ltb-true, ltb-false, eqb-true, eqb-false, ne_eqb}
use lib.Dec.{eqb, ltb}
use lib.ListN.{length, take, drop, get_or, set, length-append, length-set}
use lib.Seq.{sets, take_at, take_all, take-add, take-suc, take-suc-set}
use Rattle.wire.specs.declared.events.CardRefusal.TheVariants.{NotOfForm}
use Rattle.card_text.specs.Text.{lines_read}
use Rattle.wire.specs.declared.events.Event.{Event}
use Rattle.wire.specs.Events.{card_of}
use Rattle.card_text.specs.Cards.{card_text, card_line, card_read, event_read, cards_from, cards_in}
use Rattle.card_text.proofs.Newlines.{Unbroken}
use Rattle.card_text.proofs.Cards.{length-card, length_line, line_laid, one-card}
use Rattle.card_stream.specs.declared.partial.Partial.{Partial}
use Rattle.card_stream.specs.declared.session.Session.{Session}
use Rattle.card_stream.specs.Partials.{kept_by, partial_read, Holds}
use Rattle.card_stream.specs.declared.reader.CardReader.{CardReader}
use Rattle.card_stream.specs.Reader.{session_after, blank_reader, ended_by, line_given, last_given, ended, kept_in, byte_next, chunk_next, end_next, chunks_next, session_of, HasRead}
use Rattle.card_stream.specs.Claims.{joined, ReadInChunks, SessionOfWhole}

pub chunks : ReadInChunks
unfolding chunk_next
chunks r [] b = refl
chunks r (x ∷ a) b = chunks (byte_next r x) a b

-- one byte more of a chunk
pub byte_more : (r : CardReader) (bs : List ℕ) (k d : ℕ) → k < length bs → chunk_next r (take (k + 1) bs) ≡ byte_next (chunk_next r (take k bs)) (get_or bs k d)
unfolding chunk_next
byte_more r bs k d h = rw (add-one k, take-suc bs k d h) (chunks r (take k bs) (get_or bs k d ∷ []))

-- ---- the line so far, in fixed memory

-- a byte more
pub kept : (p : Partial) (line : List ℕ) (b : ℕ) → Holds p line → Holds (kept_by p b) (line ++ (b ∷ []))
unfolding kept_by
kept p line b h = rw length-append (go (ltb p.filled 73) refl)
  where
    go : (t : Bool) → ltb p.filled 73 ≡ t → ((kept_by p b).filled ≡ min (length line + 1) 74) × (length (kept_by p b).columns ≡ 73) × (length line + 1 ≤ 73 → take (length line + 1) (kept_by p b).columns ≡ line ++ (b ∷ []))
    go true e =
        let l = ltb-true p.filled 73 e in
        let same : p.filled ≡ length line = omega arith in
        rw (e, same) (omega arith, rw length-set h.1, λ m. rw (add-one, take-suc-set p.columns (length line) b (omega arith), h.2 (omega arith)))
    go false e =
        let l = ltb-false p.filled 73 e in
        rw e (omega arith, h.1, λ m. absurd (omega arith))

-- a byte more of some
pub kept_more : (p next : Partial) (bs : List ℕ) (k d : ℕ) → k < length bs → next ≡ kept_by p (get_or bs k d) → Holds p (take k bs) → Holds next (take (k + 1) bs)
kept_more p next bs k d h e f = rw (e, add-one k, take-suc bs k d h) (kept p (take k bs) (get_or bs k d) f)

-- a line that is not of 73 bytes is not of the form
other_length : (line : List ℕ) → eqb (length line) 73 ≡ false → event_read line ≡ Err NotOfForm
unfolding event_read card_read
other_length line e = rw e

-- what is kept is read as the line is
pub read : (p : Partial) (line : List ℕ) → Holds p line → partial_read p ≡ event_read line
unfolding partial_read
read p line h = go (eqb p.filled 73) refl
  where
    go : (t : Bool) → eqb p.filled 73 ≡ t → partial_read p ≡ event_read line
    go true e =
        let full : length line ≡ 73 = omega (arith, eqb-true p.filled 73 e) in
        rw e (ap event_read (sym (take_all (length line) p.columns (omega arith)) ∙ h.2 (omega arith)))
    go false e = rw (e, other_length line (ne_eqb (length line) 73 (λ q. eqb-false p.filled 73 e (omega arith))))

-- and the end: what the line so far leaves there
end_left : (r : CardReader) (line : List ℕ) → Holds r.partial line → (end_next r).session ≡ session_after r.session (cards_from line [])
unfolding end_next last_given ended_by lines_read session_after
end_left r [] h = rw h.0
end_left r (b ∷ line) h = rw (ne_eqb r.partial.filled 0 (λ q. omega arith))

-- ---- a line that stands whole in the input

-- a reader that holds so many bytes of a line
abbrev pub holding : ℕ → List ℕ → Session → CardReader
holding k columns s = record { partial = record { filled = k; columns = columns }; session = s }

set-at : (a : List ℕ) (x b : ℕ) (c : List ℕ) → set (a ++ (x ∷ c)) (length a) b ≡ a ++ (b ∷ c)
set-at [] x b c = refl
set-at (y ∷ a) x b c = ap (λ (l : List ℕ). y ∷ l) (set-at a x b c)

-- a byte that is no newline is kept
kept-one : (k b : ℕ) (columns : List ℕ) (s : Session) → eqb b 10 ≡ false → k < 73 → byte_next (holding k columns s) b ≡ holding (k + 1) (set columns k b) s
unfolding byte_next kept_by
kept-one k b columns s e h = rw (e, lt-ltb k 73 h) refl

-- the bytes that fill the line
kept-all : (a bs c : List ℕ) (s : Session) → length c ≡ length bs → length a + length bs ≡ 73 → Unbroken bs → chunk_next (holding (length a) (a ++ c) s) bs ≡ holding 73 (a ++ bs) s
unfolding chunk_next
kept-all a [] [] s e n p = let q : length a ≡ 73 = omega (arith, n) in rw q refl
kept-all a [] (x ∷ c) s e n p = absurd (omega (arith, e))
kept-all a (b ∷ bs) [] s e n p = absurd (omega (arith, e))
kept-all a (b ∷ bs) (x ∷ c) s e n p =
    let one = kept-one (length a) b (a ++ (x ∷ c)) s p.0 (omega (arith, n)) in
    let long : length (a ++ (b ∷ [])) ≡ length a + 1 = length-append a (b ∷ []) in
    let rest = simp append_assoc at (kept-all (a ++ (b ∷ [])) bs c s (omega (arith, e)) (omega (arith, n, long)) p.1) in
    ap (λ (r : CardReader). chunk_next r bs) (one ∙ ap (λ (l : List ℕ). holding (length a + 1) l s) (set-at a x b c))
    ∙ rw (← long) rest

-- the line is held whole
pub line_held : (r : CardReader) (line : List ℕ) → r.partial.filled ≡ 0 → length r.partial.columns ≡ 73 → length line ≡ 73 → Unbroken line → chunk_next r line ≡ holding 73 line r.session
line_held r line z w n p = ap (λ (k : ℕ). chunk_next (holding k r.partial.columns r.session) line) z ∙ kept-all [] line r.partial.columns r.session (w ∙ sym n) (omega (arith, n)) p

-- what is taken behind k bytes of an input
pub more : (r : CardReader) (s : List ℕ) (i k : ℕ) → chunk_next (chunk_next r (take i s)) (take k (drop i s)) ≡ chunk_next r (take (i + k) s)
more r s i k = rw take-add (sym (chunks r (take i s) (take k (drop i s))))

-- ---- the whole input

left : (r : CardReader) (line bs : List ℕ) → Holds r.partial line → (end_next (chunk_next r bs)).session ≡ session_after r.session (cards_from line bs)
unfolding chunk_next byte_next lines_read session_after line_given ended_by
left r line [] h = end_left r line h
left r line (b ∷ bs) h =
    go (eqb b 10) refl (left (ended r) [] bs (refl, h.1, λ m. refl)) (left (kept_in r b) (line ++ (b ∷ [])) bs (kept r.partial line b h))
  where
    go : (t : Bool) → eqb b 10 ≡ t → (end_next (chunk_next (ended r) bs)).session ≡ session_after (ended r).session (cards_from [] bs) → (end_next (chunk_next (kept_in r b) bs)).session ≡ session_after r.session (cards_from (line ++ (b ∷ [])) bs) → (end_next (chunk_next r (b ∷ bs))).session ≡ session_after r.session (cards_from line (b ∷ bs))
    go true e n k = rw (e, ← read r.partial line h) n
    go false e n k = rw e k

-- what a reader has read, and a chunk more
pub has-read : (r next : CardReader) (before input : List ℕ) → next ≡ chunk_next r input → HasRead r before → HasRead next (before ++ input)
has-read r next before input e h = rw (e, h, chunks blank_reader before input) refl

-- at the end the session is that of all that was read
pub read-whole : (r next : CardReader) (input : List ℕ) → next ≡ end_next r → HasRead r input → next.session ≡ session_of input
unfolding blank_reader
read-whole r next input e h = rw (e, h) (left blank_reader [] input (refl, refl, λ m. refl))

-- chunk after chunk is the chunks joined
joins : (r : CardReader) (cs : List (List ℕ)) → chunks_next r cs ≡ end_next (chunk_next r (joined cs))
unfolding chunks_next chunk_next
joins r [] = refl
joins r (c ∷ cs) = rw (joins (chunk_next r c) cs, chunks r c (joined cs))

pub whole : SessionOfWhole
unfolding blank_reader
whole cs = ap (λ r. r.session) (joins blank_reader cs) ∙ left blank_reader [] (joined cs) (refl, refl, λ m. refl)

-- ---- a card that is written

-- the bytes of a card that is written, read one by one, are its event
pub read-written :
    (e : Event) (xs card : List ℕ) (p : Partial) → length xs ≡ 74 → card ≡ sets xs 0 (card_line (card_of e)) → cards_in (take 74 card) ≡ Ok e ∷ []
    → Holds p (take 73 card) → partial_read p ≡ Ok e
read-written e xs card p n laid back h =
    let c = card_of e in
    let bytes : card ≡ card_line c ++ drop 74 xs = laid ∙ line_laid c xs (omega (arith, n)) in
    let whole : take 74 card ≡ card_line c = rw bytes (take_at (card_line c) (drop 74 xs) 74 (length_line c)) in
    let text : take 73 card ≡ card_text c = rw (bytes, append_assoc (card_text c) (10 ∷ []) (drop 74 xs)) (take_at (card_text c) (10 ∷ drop 74 xs) 73 (length-card c)) in
    let one : event_read (card_text c) ∷ [] ≡ Ok e ∷ [] = sym (one-card c) ∙ rw whole at back in
    read p (take 73 card) h ∙ rw text cc
