-- Feeding byte by byte, as the code goes: what one byte more leaves and prints, and how many bytes are taken. Assumes nothing.
use Prim.Native.Nat.{ℕ, suc, ◌<◌, ◌≤◌, ◌+◌, ◌-◌}
use mathlib.Core.Path.{◌≡◌, refl, sym, ap, ◌∙◌}
use mathlib.Core.Bool.{Bool, true, false}
use mathlib.Core.Logic.{◌≢◌}
use mathlib.Core.List.{List, [], ◌∷◌, ◌++◌, append-nil}
use native.Mathlib.Nat.{zero-add, suc-add}
use native.Mathlib.Numerals.{add-one}
use native.Mathlib.Omega.{arith}
use borrow.Author.Tests.{le-leb, ne_eqb}
use Rattle.std.specs.Prelude.{Some, Result}
use Rattle.std.proofs.Common.{drop-cons}
use Rattle.std.proofs.lemmas.Bool.{lt-leb}
use Rattle.std.proofs.lemmas.List.{drop_all, length-take-le, take-append-drop}
use lib.Dec.{eqb}
use lib.ListN.{length, take, drop, get_or, length-append}
use lib.Seq.{sets, take-add, take-suc}
use Rattle.card_text.specs.Cards.{event_in, event_read}
use Rattle.card_text.proofs.Text.{sets-laid}
use Rattle.card_text.proofs.Newlines.{Unbroken}
use Rattle.card_text.proofs.Cards.{card_unbroken}
use Rattle.wire.specs.declared.calls.CallC.{CallC}
use Rattle.wire.specs.declared.events.CardGiven.{CardGiven}
use Rattle.wire.specs.declared.events.CardRefusal.{CardRefusal}
use Rattle.card_stream.specs.Sessions.{given_by, refused_card, card_given}
use Rattle.card_text.specs.Lines.{outcome_text, line_bytes, most_bytes, room_of, laid}
use Rattle.card_text.proofs.Lines.{outcome-has-room}
use Rattle.card_stream.specs.Partials.{partial_read}
use Rattle.card_stream.specs.declared.reader.CardReader.{CardReader}
use Rattle.card_stream.specs.Reader.{line_given, last_given, ended_by, ended, kept_in, byte_next, chunk_next}
use Rattle.card_stream.specs.Claims.{TakenWithRoom}
use Rattle.card_stream.proofs.Reading.{byte_more as one-more, holding, line_held}
use Rattle.card_stream.specs.Feed.{given_text, byte_text, feed_text, CardStands, last_text, bytes_taken}
use Rattle.card_stream.proofs.Printing.{chunks}

-- ---- one byte more

pub byte_more :
    (r : CardReader) (bs : List ℕ) (k d : ℕ) → k < length bs →
    (chunk_next r (take (k + 1) bs) ≡ byte_next (chunk_next r (take k bs)) (get_or bs k d))
    × (feed_text r (take (k + 1) bs) ≡ feed_text r (take k bs) ++ byte_text (chunk_next r (take k bs)) (get_or bs k d))
unfolding feed_text
byte_more r bs k d h =
    let b = get_or bs k d in
    let before = chunk_next r (take k bs) in
    (one-more r bs k d h, rw (add-one k, take-suc bs k d h, chunks r (take k bs) (b ∷ []), append-nil (byte_text before b)) refl)

-- what is taken behind i bytes of an input
pub more : (r : CardReader) (s : List ℕ) (i k : ℕ) → feed_text r (take (i + k) s) ≡ feed_text r (take i s) ++ feed_text (chunk_next r (take i s)) (take k (drop i s))
more r s i k = rw take-add (chunks r (take i s) (take k (drop i s)))

-- ---- a line that stands whole in the input

-- it prints nothing before its newline
silent : (r : CardReader) (line : List ℕ) → Unbroken line → feed_text r line ≡ []
unfolding feed_text
silent r [] u = refl
silent r (b ∷ line) u = rw u.0 (silent (byte_next r b) line u.1)

-- the line in front of an input is taken with its newline, and its card gives that: no byte of it ends a line before
abbrev LineTaken : CardReader → CardReader → List ℕ → Result CardGiven CardRefusal → Type 0
LineTaken r next input outcome =
    (74 ≤ length input) × (get_or input 73 0 ≡ 10) × (feed_text r (take 73 input) ≡ []) × (next ≡ chunk_next r (take 74 input))
    × (outcome ≡ (line_given (chunk_next r (take 73 input))).outcome)

pub line_taken :
    (r next : CardReader) (input : List ℕ) (card : CallC) (outcome : Result CardGiven CardRefusal) → CardStands r input card → length r.partial.columns ≡ 73
    → next ≡ ended_by (holding 0 (take 73 input) r.session) (card_given r.session (event_in (Some card)))
    → outcome ≡ (card_given r.session (event_in (Some card))).outcome → LineTaken r next input outcome
unfolding byte_next ended_by line_given partial_read event_read
line_taken r next input card outcome stands w q o =
    let line = take 73 input in
    let h = stands.1 in
    let e = stands.2 in
    let read = stands.3 in
    let unbroken = card_unbroken line card read in
    let held : chunk_next r line ≡ holding 73 line r.session = line_held r line stands.0 w (length-take-le 73 input (omega arith)) unbroken in
    let last : chunk_next r (take 74 input) ≡ byte_next (chunk_next r line) (get_or input 73 0) = one-more r input 73 0 (omega arith) in
    (h, e, silent r line unbroken, q ∙ sym (last ∙ rw (held, e, read) refl), o ∙ rw (held, read) refl)

-- ---- the room

append-empty : (a b : List ℕ) → a ++ b ≡ [] → (a ≡ []) × (b ≡ [])
append-empty [] b e = (refl, e)
append-empty (x ∷ a) b e = absurd cc

-- where there is room bytes are taken that print nothing, and those behind them with that room
takes_silent : (r : CardReader) (bs tail : List ℕ) (room : ℕ) → most_bytes ≤ room → feed_text r bs ≡ [] → bytes_taken r (bs ++ tail) room ≡ length bs + bytes_taken (chunk_next r bs) tail room
unfolding bytes_taken feed_text chunk_next
takes_silent r [] tail room m e = sym (zero-add (bytes_taken r tail room))
takes_silent r (b ∷ bs) tail room m e =
    let none = append-empty (byte_text r b) (feed_text (byte_next r b) bs) e in
    let same : room - 0 ≡ room = omega arith in
    rw (le-leb most_bytes room m, none.0, same, takes_silent (byte_next r b) bs tail room m none.1, suc-add) refl

-- and a byte is taken, and those behind it with the room that it leaves
takes_one : (r : CardReader) (b : ℕ) (tail : List ℕ) (room : ℕ) → most_bytes ≤ room → bytes_taken r (b ∷ tail) room ≡ suc (bytes_taken (byte_next r b) tail (room - length (byte_text r b)))
unfolding bytes_taken
takes_one r b tail room m = rw (le-leb most_bytes room m) refl

-- so there one byte is at least
pub takes_some : (r : CardReader) (s : List ℕ) (room : ℕ) → most_bytes ≤ room → 1 ≤ length s → 1 ≤ bytes_taken r s room
unfolding bytes_taken
takes_some r [] room m h = h
takes_some r (b ∷ s) room m h = rw (le-leb most_bytes room m) (omega arith)

-- where there is none no byte is
pub takes_none : (r : CardReader) (s : List ℕ) (room : ℕ) → room < most_bytes → bytes_taken r s room ≡ 0
unfolding bytes_taken
takes_none r [] room h = refl
takes_none r (b ∷ s) room h = rw (lt-leb most_bytes room h) refl

-- nor behind the last
pub takes_all : (r : CardReader) (s : List ℕ) (k room : ℕ) → length s ≤ k → bytes_taken r (drop k s) room ≡ 0
unfolding bytes_taken
takes_all r s k room h = rw (drop_all k s h) refl

-- the first byte of an input
pub first_byte : (r : CardReader) (s : List ℕ) → 1 ≤ length s → (chunk_next r (take 1 s) ≡ byte_next r (get_or s 0 0)) × (feed_text r (take 1 s) ≡ byte_text r (get_or s 0 0))
unfolding chunk_next feed_text
first_byte r [] h = absurd (omega arith)
first_byte r (b ∷ s) h = (refl, append-nil (byte_text r b))

pub takes_first : (r : CardReader) (s : List ℕ) (room : ℕ) → 1 ≤ length s → most_bytes ≤ room → bytes_taken r s room ≡ 1 + bytes_taken (byte_next r (get_or s 0 0)) (drop 1 s) (room - length (byte_text r (get_or s 0 0)))
takes_first r [] room h m = absurd (omega arith)
takes_first r (b ∷ s) room h m = takes_one r b s room m ∙ omega arith

-- what a line gives that is taken
line_more :
    (r next : CardReader) (s : List ℕ) (room : ℕ) (o : Result CardGiven CardRefusal) → LineTaken r next s o → most_bytes ≤ room
    → (next ≡ chunk_next r (take 74 s)) × (feed_text r (take 74 s) ≡ outcome_text next.session.cards o)
    × (bytes_taken r s room ≡ 74 + bytes_taken next (drop 74 s) (room - length (outcome_text next.session.cards o)))
unfolding byte_next ended_by given_text
line_more r next s room o t m =
    let line = take 73 s in
    let before = chunk_next r line in
    let h : 73 < length s = omega (arith, t.0) in
    let step = byte_more r s 73 0 h in
    let e : next ≡ byte_next before 10 = t.3 ∙ step.0 ∙ ap (byte_next before) t.1 in
    let given : byte_text before 10 ≡ outcome_text (byte_next before 10).session.cards o = rw t.4 refl in
    let whole : s ≡ line ++ (10 ∷ drop 74 s) = sym (take-append-drop 73 s) ∙ ap (λ (l : List ℕ). line ++ l) (drop-cons s 73 0 h ∙ ap (λ (b : ℕ). b ∷ drop 74 s) t.1) in
    let long : length line ≡ 73 = length-take-le 73 s (omega (arith, h)) in
    let all : bytes_taken r (line ++ (10 ∷ drop 74 s)) room ≡ 74 + bytes_taken (byte_next before 10) (drop 74 s) (room - length (byte_text before 10)) =
    omega (arith, takes_silent r line (10 ∷ drop 74 s) room m t.2, takes_one before 10 (drop 74 s) room m, long) in
    (t.3, step.1 ∙ rw (t.2, t.1, e) given, ap (λ (l : List ℕ). bytes_taken r l room) whole ∙ rw (e, ← given) all)

-- and what is left and printed, by the card that stands there
pub line_fed :
    (r next : CardReader) (input : List ℕ) (card : CallC) (room : ℕ) → CardStands r input card → length r.partial.columns ≡ 73
    → next ≡ ended_by (holding 0 (take 73 input) r.session) (card_given r.session (event_in (Some card))) → most_bytes ≤ room
    → (next ≡ chunk_next r (take 74 input)) × (feed_text r (take 74 input) ≡ given_text (card_given r.session (event_in (Some card))))
    × (bytes_taken r input room ≡ 74 + bytes_taken next (drop 74 input) (room - length (given_text (card_given r.session (event_in (Some card))))))
unfolding ended_by given_text
line_fed r next input card room stands w q m =
    let a = card_given r.session (event_in (Some card)) in
    let f = line_more r next input room a.outcome (line_taken r next input card a.outcome stands w q refl) m in
    let s : next.session ≡ a.session = ap (λ (x : CardReader). x.session) q in
    (f.0, f.1 ∙ rw s refl, f.2 ∙ rw s refl)

-- and the session alone
pub line_left :
    (r next : CardReader) (input : List ℕ) (card : CallC) → CardStands r input card → length r.partial.columns ≡ 73
    → next ≡ ended_by (holding 0 (take 73 input) r.session) (card_given r.session (event_in (Some card))) → next ≡ chunk_next r (take 74 input)
line_left r next input card stands w q = (line_taken r next input card (card_given r.session (event_in (Some card))).outcome stands w q refl).3

-- a newline in front of an input
pub newline_first :
    (r : CardReader) (s : List ℕ) (room : ℕ) → 1 ≤ length s → get_or s 0 0 ≡ 10 → most_bytes ≤ room
    → (chunk_next r (take 1 s) ≡ ended r) × (feed_text r (take 1 s) ≡ given_text (line_given r))
    × (bytes_taken r s room ≡ 1 + bytes_taken (ended r) (drop 1 s) (room - length (given_text (line_given r))))
unfolding byte_next
newline_first r s room h e m =
    let one = rw e at (first_byte r s h) in
    let taken = rw e at (takes_first r s room h m) in
    (one.0, one.1, taken)

pub newline_left : (r : CardReader) (s : List ℕ) → 1 ≤ length s → get_or s 0 0 ≡ 10 → chunk_next r (take 1 s) ≡ ended r
newline_left r s h e = (newline_first r s most_bytes h e (omega arith)).0

-- a byte more that is none, behind some
pub silent_more :
    (r now : CardReader) (bs : List ℕ) (k : ℕ) → k < length bs → get_or bs k 0 ≢ 10 → now ≡ chunk_next r (take k bs) → feed_text r (take k bs) ≡ []
    → (kept_in now (get_or bs k 0) ≡ chunk_next r (take (k + 1) bs)) × (feed_text r (take (k + 1) bs) ≡ [])
unfolding byte_next
silent_more r now bs k h ne e t =
    let step = byte_more r bs k 0 h in
    let other = ne_eqb (get_or bs k 0) 10 ne in
    (rw e (sym (step.0 ∙ rw other refl)), step.1 ∙ rw (t, other) refl)

-- bytes that print nothing, in front of an input
pub takes_bytes : (r : CardReader) (s : List ℕ) (k room : ℕ) → k ≤ length s → most_bytes ≤ room → feed_text r (take k s) ≡ [] → bytes_taken r s room ≡ k + bytes_taken (chunk_next r (take k s)) (drop k s) room
takes_bytes r s k room h m e =
    let all : bytes_taken r (take k s ++ drop k s) room ≡ k + bytes_taken (chunk_next r (take k s)) (drop k s) room =
    rw (length-take-le k s h) at (takes_silent r (take k s) (drop k s) room m e) in
    ap (λ (l : List ℕ). bytes_taken r l room) (sym (take-append-drop k s)) ∙ all

-- a chunk that has room for what it prints and for the most that a card gives
pub taken-with-room : TakenWithRoom
unfolding bytes_taken feed_text
taken-with-room r [] room h = refl
taken-with-room r (b ∷ bs) room h =
    let n = length (byte_text r b) in
    let both = length-append (byte_text r b) (feed_text (byte_next r b) bs) in
    rw (le-leb most_bytes room (omega (arith, both)), taken-with-room (byte_next r b) bs (room - n) (omega (arith, both))) refl

-- a line that has no newline is one refused card, of one line
pub last_room : (r : CardReader) → room_of (last_given r).outcome ≤ line_bytes
unfolding room_of last_given card_given refused_card given_by
last_room r = omega arith

-- the end's text, and laid over bytes that have room
pub last_length : (r : CardReader) → length (last_text r) ≤ line_bytes
unfolding last_text given_text
last_length r = go (eqb r.partial.filled 0) refl
  where
    go : (t : Bool) → eqb r.partial.filled 0 ≡ t → length (last_text r) ≤ line_bytes
    go true e = rw e (omega arith)
    go false e = let a = last_given r in rw e (omega (arith, (outcome-has-room a.session.cards a.outcome).0, last_room r))

pub last_laid : (r : CardReader) (xs : List ℕ) → line_bytes ≤ length xs → sets xs 0 (last_text r) ≡ laid (last_text r) xs
last_laid r xs h = sets-laid xs (last_text r) (omega (arith, last_length r))
