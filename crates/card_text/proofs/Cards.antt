-- The claims of event cards. What is written is read: each column is cut out of the text, and read. What is read is written: each field is
-- what its number is written as, and the fields joined are the line. Then the same of a list. Assumes nothing.
use Prim.Native.Nat.{ℕ, suc, ◌+◌, ◌^◌, ◌≤◌, ◌<◌}
use mathlib.Core.Path.{◌≡◌, refl, subst, ◌∙◌}
use mathlib.Core.Bool.{Bool, true, false, cond}
use mathlib.Core.List.{List, [], ◌∷◌, ◌++◌, append_assoc, append-nil}
use native.Mathlib.Omega.{arith}
use lib.Dec.{eqb, leb}
use lib.ListN.{length, drop}
use lib.Seq.{sets}
use Rattle.std.specs.List.{between}
use borrow.Author.Tests.{eq-eqb, eqb-true, le-leb, leb-true}
use Rattle.card_text.specs.Columns.{places, column, max_number, number_of}
use Rattle.card_text.proofs.Numbers as columns
use Rattle.card_text.proofs.Parts.{between-join, between-whole}
use Rattle.lease.specs.declared.LeaseNotice.{LeaseNotice}
use Rattle.lease.specs.declared.LeaseNotice.TheVariants as N
use Rattle.lease.proofs.Tests.{both}
use Rattle.wire.specs.declared.calls.CallC.{CallC}
use Rattle.wire.specs.declared.events.Event.{Event}
use Rattle.wire.specs.declared.events.Event.TheVariants as E
use Rattle.wire.specs.declared.events.CardRefusal.{CardRefusal}
use Rattle.wire.specs.declared.events.CardRefusal.TheVariants.{NotOfForm, NoCard}
use Rattle.wire.specs.Events.{card, is_card, event_of, notice_card, card_of, carried_event, has_room, is_carried}
use Rattle.wire.proofs.CardEventsLaws as events
use Rattle.std.specs.Prelude.{Option, Some, None, Result, Ok, Err, map}
use Rattle.card_text.specs.Text.{lines_read}
use Rattle.card_text.specs.Cards.{card_text, card_line, numbers_in, card_read, event_in, event_read, events_text, cards_from, cards_in}
use Rattle.card_text.specs.Claims.{WideCard, Carried, CardsWrittenAreRead, CardReadIsWritten, CardsReadAreWritten}
use Rattle.card_text.proofs.Text.{sets-laid}
use Rattle.card_text.proofs.Newlines.{Unbroken, unbroken-both, unbroken-column, line-ended}

-- ---- a card's text: how long it is, and its columns cut out of it

pub length-card : (c : CallC) → length (card_text c) ≡ 73
unfolding card_text column places
length-card c = refl

pub length_line : (c : CallC) → length (card_line c) ≡ 74
unfolding card_text column places
length_line c = refl

pub cut-code : (c : CallC) → between 0 2 (card_text c) ≡ column 2 c.code
unfolding card_text column places
cut-code c = refl

pub cut-number : (c : CallC) → between 2 23 (card_text c) ≡ column 21 c.number
unfolding card_text column places
cut-number c = refl

pub cut-peer : (c : CallC) → between 23 27 (card_text c) ≡ column 4 c.peer
unfolding card_text column places
cut-peer c = refl

pub cut-size : (c : CallC) → between 27 31 (card_text c) ≡ column 4 c.size
unfolding card_text column places
cut-size c = refl

pub cut-first : (c : CallC) → between 31 52 (card_text c) ≡ column 21 c.first
unfolding card_text column places
cut-first c = refl

pub cut-second : (c : CallC) → between 52 73 (card_text c) ≡ column 21 c.second
unfolding card_text column places
cut-second c = refl

-- a card with its newline laid over the start of a list
pub line_laid : (c : CallC) (xs : List ℕ) → 74 ≤ length xs → sets xs 0 (card_line c) ≡ card_line c ++ drop 74 xs
line_laid c xs h = rw (length_line c) at (sets-laid xs (card_line c) (rw (length_line c) h))

-- ---- what is written is read

column-says : (bs : List ℕ) (w n : ℕ) → bs ≡ column (suc w) n → n < 10 ^ suc w → n ≤ max_number → number_of bs ≡ Some n
column-says bs w n e h m = rw e (columns.written-is-read w n h m)

fields-say : (a b d f g h : Option ℕ) (c : CallC) → a ≡ Some c.code → b ≡ Some c.number → d ≡ Some c.peer → f ≡ Some c.size → g ≡ Some c.first → h ≡ Some c.second → numbers_in a b d f g h ≡ Some c
fields-say a b d f g h c s₁ s₂ s₃ s₄ s₅ s₆ = rw (s₁, s₂, s₃, s₄, s₅, s₆) refl

-- The numbers have room in their columns.
abbrev Fits : CallC → Type 0
Fits c = (c.code < 100) × (c.peer ≤ 9999) × (c.size ≤ 9999)

card-is-read : (c : CallC) → Fits c → WideCard c → card_read (card_text c) ≡ Some c
unfolding card_read
card-is-read c fits wide =
    rw (eq-eqb (length (card_text c)) 73 (length-card c))
    (fields-say _ _ _ _ _ _ c
    (column-says _ 1 c.code (cut-code c) (omega arith) (omega arith))
    (column-says _ 20 c.number (cut-number c) (omega arith) wide.0)
    (column-says _ 3 c.peer (cut-peer c) (omega arith) (omega arith))
    (column-says _ 3 c.size (cut-size c) (omega arith) (omega arith))
    (column-says _ 20 c.first (cut-first c) (omega arith) wide.1)
    (column-says _ 20 c.second (cut-second c) (omega arith) wide.2))

notice-code : (num : ℕ) (notice : LeaseNotice) → (notice_card num notice).code < 100
unfolding notice_card
notice-code num (N.NewGrants set bar) = omega arith
notice-code num (N.DoRevoke set) = omega arith
notice-code num N.ClearHeld = omega arith
notice-code num (N.RecvLeaseMsg id msg) = omega arith
notice-code num (N.GrantTimeout id) = omega arith
notice-code num (N.LeaseTimeout id) = omega arith

event-code : (e : Event) → (card_of e).code < 100
unfolding card_of
event-code (E.SetUp u) = omega arith
event-code (E.Advance to) = omega arith
event-code (E.Notice num notice) = notice-code num.0 notice

-- one card, without its newline
pub written-is-read : (e : Event) → WideCard (card_of e) → is_carried e ≡ true → event_read (card_text (card_of e)) ≡ Ok e
unfolding event_read is_carried
written-is-read e wide carried =
    let c = card_of e in
    let t = both (carried_event e) (has_room c) carried in
    let room = both (leb c.peer 9999) (leb c.size 9999) t.1 in
    let said = events.written-is-read e t.0 in
    let fits : Fits c = (event-code e, leb-true c.peer 9999 room.0, leb-true c.size 9999 room.1) in
    rw (card-is-read c fits wide, said.0, said.1)

unbroken-card : (c : CallC) → Unbroken (card_text c)
unfolding card_text
unbroken-card c =
    unbroken-both _ _
    (unbroken-both _ _
    (unbroken-both _ _
    (unbroken-both _ _ (unbroken-both _ _ (unbroken-column 2 c.code) (unbroken-column 21 c.number)) (unbroken-column 4 c.peer))
    (unbroken-column 4 c.size))
    (unbroken-column 21 c.first))
    (unbroken-column 21 c.second)

-- any cards, with their newlines
pub cards-written-are-read : CardsWrittenAreRead
unfolding events_text lines_read
cards-written-are-read [] all = refl
cards-written-are-read (e ∷ es) all =
    rw (
      append_assoc (card_text (card_of e)) (10 ∷ []) (events_text es),
      line-ended (Result Event CardRefusal) event_read (Err NotOfForm) [] (card_text (card_of e)) (events_text es) (unbroken-card (card_of e)),
      written-is-read e all.0.0 all.0.1,
      cards-written-are-read es all.1,
    )
    refl

-- one card, with its newline
pub card-comes-back : (e : Event) → Carried e → cards_in (card_line (card_of e)) ≡ Ok e ∷ []
unfolding events_text
card-comes-back e all = rw append-nil at (cards-written-are-read (e ∷ []) (all, tt))

-- what a card's text with its newline is read as
pub one-card : (c : CallC) → cards_in (card_line c) ≡ event_read (card_text c) ∷ []
unfolding lines_read
one-card c = line-ended (Result Event CardRefusal) event_read (Err NotOfForm) [] (card_text c) [] (unbroken-card c)

-- ---- what is read is written

-- What a read gives, where it gives an event.
read-event : (x : Bool) (read : Option CallC) (e : Event) → event_in (cond x read None) ≡ Ok e → (x ≡ true) × (event_in read ≡ Ok e)
read-event true read e r = (refl, r)
read-event false read e r = (cc, cc)

said-event : (x : Bool) (c : CallC) (e : Event) → cond x (Ok (event_of c)) (Err NoCard) ≡ Ok e → (x ≡ true) × (event_of c ≡ e)
said-event true c e r = (refl, cc)
said-event false c e r = (cc, cc)

-- A card of those numbers, each of which is read.
abbrev AllSay : Option ℕ → Option ℕ → Option ℕ → Option ℕ → Option ℕ → Option ℕ → CallC → Type 0
AllSay a b d f g h c = (a ≡ Some c.code) × (b ≡ Some c.number) × (d ≡ Some c.peer) × (f ≡ Some c.size) × (g ≡ Some c.first) × (h ≡ Some c.second)

-- Where the fields give a card, each says its number.
all-say : (a b d f g h : Option ℕ) (c : CallC) → numbers_in a b d f g h ≡ Some c → AllSay a b d f g h c
all-say (Some a) (Some b) (Some d) (Some f) (Some g) (Some h) c r = let e : card a b d f g h ≡ c = cc in rw (← e) (refl, refl, refl, refl, refl, refl)
all-say None b d f g h c r = absurd cc
all-say (Some a) None d f g h c r = absurd cc
all-say (Some a) (Some b) None f g h c r = absurd cc
all-say (Some a) (Some b) (Some d) None g h c r = absurd cc
all-say (Some a) (Some b) (Some d) (Some f) None h c r = absurd cc
all-say (Some a) (Some b) (Some d) (Some f) (Some g) None c r = absurd cc

module _ (line : List ℕ) (long : length line ≡ 73) where
  -- the number in the columns of a line
  abbrev field : ℕ → ℕ → Option ℕ
  field from width = number_of (between from (from + width) line)

  join : (from to : ℕ) → from ≤ to → to ≤ 73 → between 0 from line ++ between from to line ≡ between 0 to line
  join from to h k = between-join 0 from to line (omega arith) h (rw long k)

  -- the line says those numbers
  abbrev Say : CallC → Type 0
  Say c = AllSay (field 0 2) (field 2 21) (field 23 4) (field 27 4) (field 31 21) (field 52 21) c

  line-is-written : (c : CallC) → Say c → card_text c ≡ line
  unfolding card_text
  line-is-written c are =
      rw (
        columns.part-written 0 2 c.code line (omega arith) are.0,
        columns.part-written 2 21 c.number line (omega arith) are.1,
        columns.part-written 23 4 c.peer line (omega arith) are.2,
        columns.part-written 27 4 c.size line (omega arith) are.3,
        columns.part-written 31 21 c.first line (omega arith) are.4,
        columns.part-written 52 21 c.second line (omega arith) are.5,
        join 2 23 (omega arith) (omega arith),
        join 23 27 (omega arith) (omega arith),
        join 27 31 (omega arith) (omega arith),
        join 31 52 (omega arith) (omega arith),
        join 52 73 (omega arith) (omega arith),
      )
      (rw long at (between-whole line))

  room : (c : CallC) → Say c → has_room c ≡ true
  room c are =
      let p = columns.part-below 23 4 c.peer line (omega arith) are.2 in
      let s = columns.part-below 27 4 c.size line (omega arith) are.3 in
      rw (le-leb c.peer 9999 (omega arith), le-leb c.size 9999 (omega arith))

  said-card : (c : CallC) (e : Event) → Say c → event_in (Some c) ≡ Ok e → (card_text (card_of e) ≡ line) × (is_carried e ≡ true)
  unfolding is_carried
  said-card c e say r =
      let is = said-event (is_card c) c e r in
      let same = events.read-is-written c is.0 in
      rw (← is.1, same.0, same.1) (line-is-written c say, room c say)

  -- the card of its fields, where there is one
  abbrev numbers : Option CallC
  numbers = numbers_in (field 0 2) (field 2 21) (field 23 4) (field 27 4) (field 31 21) (field 52 21)

  says : (c : CallC) → numbers ≡ Some c → Say c
  says c r = all-say _ _ _ _ _ _ c r

  card-event : (e : Event) → event_in numbers ≡ Ok e → (card_text (card_of e) ≡ line) × (is_carried e ≡ true)
  card-event e r = go numbers refl r
    where
      go : (x : Option CallC) → numbers ≡ x → event_in x ≡ Ok e → (card_text (card_of e) ≡ line) × (is_carried e ≡ true)
      go None q h = absurd cc
      go (Some c) q h = said-card c e (says c q) h

pub read-is-written : CardReadIsWritten
unfolding event_read card_read
read-is-written line e r =
    let long = read-event (eqb (length line) 73) _ e r in
    card-event line (eqb-true (length line) 73 long.0) e long.1

-- a line that is read as six numbers holds no newline
pub card_unbroken : (line : List ℕ) (c : CallC) → card_read line ≡ Some c → Unbroken line
unfolding card_read
card_unbroken line c r = go (eqb (length line) 73) refl
  where
    go : (x : Bool) → eqb (length line) 73 ≡ x → Unbroken line
    go true e =
        let long = eqb-true (length line) 73 e in
        subst Unbroken (line-is-written line long c (says line long c (rw e at r))) (unbroken-card c)
    go false e = let none : None ≡ Some c = rw e at r in absurd cc

-- The event of the first answer and those of the others, where all are accepted.
record Accepted (r : Result Event CardRefusal) (rs : List (Result Event CardRefusal)) (es : List Event) : Type 0 where
  pub first : Event
  pub rest : List Event
  pub both : es ≡ first ∷ rest
  pub one : r ≡ Ok first
  pub others : rs ≡ map Ok rest

accepted : (r : Result Event CardRefusal) (rs : List (Result Event CardRefusal)) (es : List Event) → r ∷ rs ≡ map Ok es → Accepted r rs es
accepted r rs [] q = absurd cc
accepted r rs (e ∷ es) q = record { first = e; rest = es; both = refl; one = cc; others = cc }

-- the line so far and the bytes behind it are the accepted cards
cards-from-written : (input line : List ℕ) (es : List Event) → cards_from line input ≡ map Ok es → events_text es ≡ line ++ input
unfolding lines_read events_text
cards-from-written [] [] [] r = refl
cards-from-written [] [] (e ∷ es) r = absurd cc
cards-from-written [] (b ∷ line) es r =
    let f = accepted (Err NotOfForm) [] es r in
    let none : Err NotOfForm ≡ Ok f.first = f.one in
    absurd cc
cards-from-written (b ∷ bs) line es r = go (eqb b 10) refl (λ rest q. cards-from-written bs [] rest q) (λ q. cards-from-written bs (line ++ (b ∷ [])) es q) r
  where
    go :
        (x : Bool) → eqb b 10 ≡ x
        → ((rest : List Event) → cards_from [] bs ≡ map Ok rest → events_text rest ≡ bs)
        → (cards_from (line ++ (b ∷ [])) bs ≡ map Ok es → events_text es ≡ (line ++ (b ∷ [])) ++ bs)
        → cond x (event_read line ∷ cards_from [] bs) (cards_from (line ++ (b ∷ [])) bs) ≡ map Ok es → events_text es ≡ line ++ (b ∷ bs)
    go true q ended longer h =
        let f = accepted (event_read line) (cards_from [] bs) es h in
        rw (f.both, (read-is-written line f.first f.one).0, ended f.rest f.others, eqb-true b 10 q) (append_assoc line (10 ∷ []) bs)
    go false q ended longer h = longer h ∙ append_assoc line (b ∷ []) bs

-- any cards of an input that are all accepted
pub cards-read-are-written : CardsReadAreWritten
cards-read-are-written input es r = cards-from-written input [] es r
