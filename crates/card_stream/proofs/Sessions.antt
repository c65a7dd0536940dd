-- A refused card is counted, and changes nothing else: 21, 22 and 23 by their definition, a call's refusals by the outcome of the rule's
-- answer. And the number that a card is refused with. Assumes nothing.
use Rattle.std.specs.Prelude.{Option, None, Some, Result, Ok, Err}
use Prim.Native.Nat.{ℕ, ◌<◌}
use mathlib.Core.Path.{◌≡◌, refl}
use mathlib.Core.Bool.{Bool, true, false, cond}
use mathlib.Core.List.{List}
use Rattle.lease.specs.declared.Refusal.{Refusal}
use Rattle.lease.specs.declared.Lines.{Lines}
use Rattle.lease.specs.declared.Advanced.{Advanced}
use Rattle.lease.specs.declared.Manager.{Manager}
use Rattle.lease.specs.Types.{Reading}
use Rattle.lease.specs.RecordCheck.{record_valid}
use Rattle.lease.specs.SetUp.{setup_refusal, fresh, setup_of}
use Rattle.reachable.specs.Reachable.{set-up as reached-set-up}
use Rattle.reachable.proofs.Reached.{reachable-valid}
use Rattle.lease.specs.Rules.{notice_of, advance_of}
use Rattle.wire.specs.declared.calls.CallC.{CallC}
use Rattle.wire.specs.Events.{is_card, event_of}
use Rattle.card_text.specs.Cards.{card_read, event_in, event_read, refused_with}
use Rattle.wire.specs.declared.events.Event.{Event}
use Rattle.wire.specs.declared.events.Event.TheVariants as E
use Rattle.wire.specs.declared.events.CardGiven.{CardGiven}
use Rattle.wire.specs.declared.events.CardRefusal.{CardRefusal}
use Rattle.wire.specs.declared.events.CardRefusal.TheVariants as C
use Rattle.card_stream.specs.declared.session.Session.{Session}
use Rattle.card_stream.specs.declared.session.CardAnswer.{CardAnswer}
use Rattle.card_stream.specs.Sessions.{counted, given_by, refused_card, set_up_result, set_up_event, advance_result, advance_event, notice_result, notice_event, event_given, card_given, call_number, event_number, numbers_number, card_number}
use Rattle.card_stream.specs.Sessions.{RecordNotBefore}
use Rattle.card_stream.specs.Claims.{RefusedCardKeeps}
use lib.ListN.{get_or-replicate}
use Rattle.lease.specs.Bitmaps.{capacity}
use Rattle.lease.specs.Rows.{empty_row}
use native.Mathlib.Omega.{arith}
use Rattle.refusals.proofs.Laws.{fits}
use Rattle.peer_rows.specs.Due.{RowsNotBefore}
use Rattle.peer_rows.proofs.NotBefore.{rows_zero, empty_never}
use Rattle.engine.specs.Due.{NotBefore}

-- An answer that, if it refuses, leaves the session as it was.
abbrev Keeps : Session → CardAnswer → Type 0
Keeps s a = (k : CardRefusal) → a.outcome ≡ Err k → a.session ≡ s

refused : (s : Session) (j : CardRefusal) → Keeps s (refused_card s j)
unfolding refused_card given_by
refused s j k e = refl

set-up : (s : Session) (o : Result (Unit {0}) Refusal) (m : Manager) → Keeps s (set_up_result s o m)
unfolding given_by
set-up s (Err j) m = refused s (C.Call j)
set-up s (Ok tt) m = λ k e. cc

advance : (s : Session) (o : Result Advanced Refusal) (m : Manager) → Keeps s (advance_result s o m)
unfolding given_by
advance s (Err j) m = refused s (C.Call j)
advance s (Ok a) m = λ k e. cc

notice : (s : Session) (o : Result Lines Refusal) (m : Manager) → Keeps s (notice_result s o m)
unfolding given_by
notice s (Err j) m = refused s (C.Call j)
notice s (Ok lines) m = λ k e. cc

event : (s : Session) (before : Option Manager) (e : Event) → Keeps s (event_given s before e)
unfolding event_given set_up_event advance_event notice_event
event s None (E.SetUp u) =
    let r = setup_of u.me u.population u.expire_timeout u.heartbeat u.now in
    set-up s r.outcome r.manager
event s None (E.Advance to) = refused s C.OutOfTurn
event s None (E.Notice num n) = refused s C.OutOfTurn
event s (Some m) (E.SetUp u) = refused s C.OutOfTurn
event s (Some m) (E.Advance to) =
    let r = advance_of m to in
    advance s r.outcome r.manager
event s (Some m) (E.Notice num n) =
    let r = notice_of m num n in
    notice s r.outcome r.manager

pub refused-keeps : RefusedCardKeeps
unfolding card_given
refused-keeps s (Err j) = refused (counted s) j
refused-keeps s (Ok e) = event (counted s) s.manager e

-- ---- the number of a refusal

set_up-number : (s : Session) (o : Result (Unit {0}) Refusal) (m : Manager) → refused_with (set_up_result s o m).outcome ≡ call_number o
unfolding refused_card given_by
set_up-number s (Err k) m = refl
set_up-number s (Ok tt) m = refl

advance-number : (s : Session) (o : Result Advanced Refusal) (m : Manager) → refused_with (advance_result s o m).outcome ≡ call_number o
unfolding refused_card given_by
advance-number s (Err k) m = refl
advance-number s (Ok a) m = refl

notice-number : (s : Session) (o : Result Lines Refusal) (m : Manager) → refused_with (notice_result s o m).outcome ≡ call_number o
unfolding refused_card given_by
notice-number s (Err k) m = refl
notice-number s (Ok lines) m = refl

event-number : (s : Session) (before : Option Manager) (e : Event) → refused_with (event_given s before e).outcome ≡ event_number before e
unfolding event_given set_up_event advance_event notice_event event_number refused_card given_by
event-number s None (E.SetUp u) =
    let r = setup_of u.me u.population u.expire_timeout u.heartbeat u.now in
    set_up-number s r.outcome r.manager
event-number s None (E.Advance to) = refl
event-number s None (E.Notice num n) = refl
event-number s (Some m) (E.SetUp u) = refl
event-number s (Some m) (E.Advance to) =
    let r = advance_of m to in
    advance-number s r.outcome r.manager
event-number s (Some m) (E.Notice num n) =
    let r = notice_of m num n in
    notice-number s r.outcome r.manager

-- what the numbers of a line give, where there are any
numbers-number : (s : Session) (c : Option CallC) → refused_with (card_given s (event_in c)).outcome ≡ numbers_number s.manager c
unfolding card_given refused_card given_by
numbers-number s None = refl
numbers-number s (Some c) = go (is_card c)
  where
    go : (x : Bool) → refused_with (card_given s (cond x (Ok (event_of c)) (Err C.NoCard))).outcome ≡ cond x (event_number s.manager (event_of c)) 22
    go true = event-number (counted s) s.manager (event_of c)
    go false = refl

-- a card's refusal has the number that its line and the record say
pub card-number : (s : Session) (line : List ℕ) → refused_with (card_given s (event_read line)).outcome ≡ card_number s.manager line
unfolding event_read card_number
card-number s line = numbers-number s (card_read line)

-- an answer that is the card's has that number
pub number-by : (s : Session) (read : Result Event CardRefusal) (line : List ℕ) (o : Result CardGiven CardRefusal) → o ≡ (card_given s read).outcome → read ≡ event_read line → refused_with o ≡ card_number s.manager line
number-by s read line o e f = rw (e, f) (card-number s line)

-- An accepted set-up starts with a record that refusal 15 lets through.
pub fresh_valid : (me n t hb : ℕ) (now : Reading) → setup_refusal me n t hb now ≡ Ok tt → record_valid (fresh me n t now) ≡ true
unfolding setup_of
fresh_valid me n t hb now e = rw e at (reachable-valid (setup_of me n t hb now).manager (reached-set-up me n t hb now (rw e refl)))

-- No timer is due below 0, nor in the record that a set-up starts with.
pub none_at_zero : (m : Option Manager) → RecordNotBefore 0 m
none_at_zero None = tt
none_at_zero (Some m) = rows_zero m.population m.peers

pub fresh_not_due : (b me n t : ℕ) (now : Reading) → record_valid (fresh me n t now) ≡ true → NotBefore b (fresh me n t now)
unfolding fresh RowsNotBefore
fresh_not_due b me n t now v i l =
    let few = (fits (fresh me n t now) v).few in
    let room : i < capacity = omega (arith, l, few) in
    rw (get_or-replicate capacity i empty_row empty_row room) (empty_never b)
