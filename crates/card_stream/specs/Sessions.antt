-- What a card does (rules 14.3, 14.5): refused with 21 or 22 as its line was read, then with 23, then as the call that it says; else what
-- the rules give, on the record that the cards before it left. Definitions only.
use Rattle.std.specs.Prelude.{ℕ, ◌+◌, ◌≡◌, Bool, true, cond, ltb, List, [], Option, None, Some, Result, Ok, Err}
use Rattle.card_text.specs.Columns.{max_number}
use Rattle.lease.specs.declared.Refusal.{Refusal}
use Rattle.lease.specs.Refusals.{refusal_number}
use Rattle.lease.specs.declared.Lines.{Lines}
use Rattle.lease.specs.declared.Advanced.{Advanced}
use Rattle.lease.specs.declared.Line.{Line}
use Rattle.lease.specs.Fired.{fired_array}
use Rattle.lease.specs.Types.{Reading}
use Rattle.lease.specs.declared.LeaseNum.{LeaseNum}
use Rattle.lease.specs.declared.LeaseNotice.{LeaseNotice}
use Rattle.lease.specs.declared.Manager.{Manager}
use Rattle.lease.specs.RecordCheck.{record_valid}
use Rattle.lease.specs.SetUp.{setup_of}
use Rattle.lease.specs.Rules.{notice_of, advance_of}
use Rattle.wire.specs.declared.calls.CallC.{CallC}
use Rattle.wire.specs.Events.{is_card, event_of}
use Rattle.card_text.specs.Cards.{card_read}
use Rattle.wire.specs.declared.events.SetUpCall.{SetUpCall}
use Rattle.wire.specs.declared.events.Event.{Event}
use Rattle.wire.specs.declared.events.Event.TheVariants as E
use Rattle.wire.specs.declared.events.CardRefusal.{CardRefusal}
use Rattle.wire.specs.declared.events.CardRefusal.TheVariants as C
use Rattle.wire.specs.declared.events.CardGiven.{CardGiven}
use Rattle.wire.specs.declared.events.CardGiven.TheVariants as G
use Rattle.engine.specs.Due.{NotBefore}
use Rattle.engine.specs.declared.notices.Turn.{Turn}
use Rattle.engine.specs.Turns.{turn_lines}
use Rattle.card_stream.specs.declared.session.Session.{Session}
use Rattle.card_stream.specs.declared.session.Known.{Known}
use Rattle.card_stream.specs.declared.session.CardAnswer.{CardAnswer}

-- ---- the state from card to card

-- Before the first card: no set-up, no card.
unfoldable pub blank_session : Session
blank_session = record { cards = 0; manager = None }

-- Whether refusal 15 lets the record through, if there is one: cards from the first on keep it so.
abbrev pub record_sound : Option Manager → Bool
record_sound None = true
record_sound (Some m) = record_valid m

abbrev pub sound : Session → Bool
sound s = record_sound s.manager

-- None of the timers of the record, if there is one, is due at a reading below b.
abbrev pub RecordNotBefore : ℕ → Option Manager → Type 0
RecordNotBefore b None = Unit
RecordNotBefore b (Some m) = NotBefore b m

-- What is known of a session holds of it.
abbrev pub Knows : Known → Session → Type 0
Knows known s = (known.is_sound ≡ sound s) × RecordNotBefore known.due s.manager

-- Cards are counted from 1; the count stops at the largest number that a line can print.
abbrev pub count_next : ℕ → ℕ
count_next n = cond (ltb n max_number) (n + 1) n

-- One card more.
unfoldable pub counted : Session → Session
counted s = record { cards = count_next s.cards; manager = s.manager }

-- After an accepted card.
unfoldable pub with_manager : Session → Manager → Session
with_manager s m = record { cards = s.cards; manager = Some m }

-- An outcome, and the session after it.
unfoldable pub given_by : Result CardGiven CardRefusal → Session → CardAnswer
given_by outcome s = record { outcome = outcome; session = s }

-- A refused card changes nothing.
unfoldable pub refused_card : Session → CardRefusal → CardAnswer
refused_card s k = given_by (Err k) s

-- ---- what a call answers, as its card gives it

abbrev pub done : Result (Unit {0}) CardRefusal → Result CardGiven CardRefusal
done (Err k) = Err k
done (Ok tt) = Ok G.Done

-- Timers fire under the active number.
abbrev pub fired : Result (LeaseNum × Advanced) CardRefusal → Result CardGiven CardRefusal
fired (Err k) = Err k
fired (Ok (num, a)) = Ok (G.Fired num a.fired a.quiet_end)

-- No timer.
abbrev pub nothing_given : LeaseNum × Option Line → Result CardGiven CardRefusal
nothing_given (num, line) = Ok (G.Fired num (fired_array []) line)

-- A notice's actions are lines under its number.
abbrev pub acted : LeaseNum → Turn → Result (Unit {0}) CardRefusal → Result CardGiven CardRefusal
acted num turn (Err k) = Err k
acted num turn (Ok tt) = Ok (G.Acted (turn_lines num turn))

-- ---- what an event gives, by the rules

abbrev pub set_up_result : Session → Result (Unit {0}) Refusal → Manager → CardAnswer
set_up_result s (Err k) m = refused_card s (C.Call k)
set_up_result s (Ok tt) m = given_by (Ok G.Done) (with_manager s m)

unfoldable pub set_up_event : Session → SetUpCall → CardAnswer
set_up_event s u =
    let r = setup_of u.me u.population u.expire_timeout u.heartbeat u.now in
    set_up_result s r.outcome r.manager

-- Timers fire under the active number.
abbrev pub advance_result : Session → Result Advanced Refusal → Manager → CardAnswer
advance_result s (Err k) m = refused_card s (C.Call k)
advance_result s (Ok a) m = given_by (Ok (G.Fired m.active_num a.fired a.quiet_end)) (with_manager s m)

unfoldable pub advance_event : Session → Manager → Reading → CardAnswer
advance_event s before to =
    let r = advance_of before to in
    advance_result s r.outcome r.manager

abbrev pub notice_result : Session → Result Lines Refusal → Manager → CardAnswer
notice_result s (Err k) m = refused_card s (C.Call k)
notice_result s (Ok lines) m = given_by (Ok (G.Acted lines)) (with_manager s m)

unfoldable pub notice_event : Session → Manager → LeaseNum → LeaseNotice → CardAnswer
notice_event s before num notice =
    let r = notice_of before num notice in
    notice_result s r.outcome r.manager

-- ---- which refusal a card gets

-- Out of turn, 23: any card but set-up before an accepted one, or set-up after it (rule 10.23).
unfoldable pub event_given : Session → Option Manager → Event → CardAnswer
event_given s None (E.SetUp u) = set_up_event s u
event_given s None (E.Advance to) = refused_card s C.OutOfTurn
event_given s None (E.Notice num notice) = refused_card s C.OutOfTurn
event_given s (Some m) (E.SetUp u) = refused_card s C.OutOfTurn
event_given s (Some m) (E.Advance to) = advance_event s m to
event_given s (Some m) (E.Notice num notice) = notice_event s m num notice

-- First 21 and 22, as the line was read (rule 14.3).
unfoldable pub card_given : Session → Result Event CardRefusal → CardAnswer
card_given s (Err k) = refused_card (counted s) k
card_given s (Ok e) = event_given (counted s) s.manager e

-- ---- the refusal as a number, by the line and the record alone; 0 where there is none

-- As the rules refuse a call.
abbrev pub call_number : {T : Type 0} → Result T Refusal → ℕ
call_number (Ok x) = 0
call_number (Err k) = refusal_number k

unfoldable pub event_number : Option Manager → Event → ℕ
event_number None (E.SetUp u) = call_number (setup_of u.me u.population u.expire_timeout u.heartbeat u.now).outcome
event_number None (E.Advance to) = 23
event_number None (E.Notice num notice) = 23
event_number (Some m) (E.SetUp u) = 23
event_number (Some m) (E.Advance to) = call_number (advance_of m to).outcome
event_number (Some m) (E.Notice num notice) = call_number (notice_of m num notice).outcome

abbrev pub numbers_number : Option Manager → Option CallC → ℕ
numbers_number m None = 21
numbers_number m (Some c) = cond (is_card c) (event_number m (event_of c)) 22

-- 21 where the line is not of the form, 22 where its numbers are no card, 23 where the card is out of turn, else as its call is refused
-- (rules 14.3, 10.30).
unfoldable pub card_number : Option Manager → List ℕ → ℕ
card_number m line = numbers_number m (card_read line)
