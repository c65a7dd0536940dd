-- What is claimed of the conversions and of the refusals' numbers; each claim stands on a function of src/laws.rt. Statements only.
use Rattle.std.specs.Prelude.{◌≡◌, true, T}
use Rattle.std.specs.Float.{binary64}
use Rattle.std.specs.Float.Ieee.{fits}
use Rattle.lease.specs.Refusals.{refusal_number}
use Rattle.lease.specs.declared.Manager.{Manager}
use Rattle.lease.specs.declared.Refusal.{Refusal}
use Rattle.lease.specs.declared.Refusal.TheVariants as R
use Rattle.wire.specs.declared.flat.ManagerC.{ManagerC}
use Rattle.wire.specs.Flat.{flat_of}
use Rattle.wire.specs.FromFlat.{manager_of}
use Rattle.wire.specs.Form.{is_record}
use Rattle.wire.specs.declared.answers.CallRefusal.TheVariants as H
use Rattle.wire.specs.declared.calls.CallC.{CallC}
use Rattle.wire.specs.declared.events.CardRefusal.TheVariants as C
use Rattle.wire.specs.declared.events.Event.{Event}
use Rattle.wire.specs.Events.{is_card, event_of, card_of, carried_event}
use Rattle.wire.specs.Refusals.{card_refusal_number, call_refusal_number}

-- ---- the flat record

-- There and back is the same record, for every manager's record.
abbrev pub ThereAndBack : Type 0
ThereAndBack = (m : Manager) → manager_of (flat_of m) ≡ m

-- And what comes of it is not refused for its form.
abbrev pub FlatIsRecord : Type 0
FlatIsRecord = (m : Manager) → is_record (flat_of m) ≡ true

-- Back and there is the same flat record, for each that is not refused for its form. `fits` says that the quotient is an f64, as the field's
-- type has it.
abbrev pub BackAndThere : Type 0
BackAndThere = (f : ManagerC) → T (fits binary64 f.quotient) → is_record f ≡ true → flat_of (manager_of f) ≡ f

-- ---- cards as numbers

-- What an event is written as is a card, and says that event.
abbrev pub WrittenIsRead : Type 0
WrittenIsRead = (e : Event) → carried_event e ≡ true → (is_card (card_of e) ≡ true) × (event_of (card_of e) ≡ e)

-- A card is what its event is written as.
abbrev pub ReadIsWritten : Type 0
ReadIsWritten = (c : CallC) → is_card c ≡ true → (card_of (event_of c) ≡ c) × (carried_event (event_of c) ≡ true)

-- ---- the refusals' numbers

-- A card's: 21 not of the form, 22 no card, 23 out of turn, else the call's.
pub record CardNumbers : Type 0 where
  pub not_of_form : card_refusal_number C.NotOfForm ≡ 21
  pub no_card : card_refusal_number C.NoCard ≡ 22
  pub out_of_turn : card_refusal_number C.OutOfTurn ≡ 23
  pub call : (k : Refusal) → card_refusal_number (C.Call k) ≡ refusal_number k

-- A call's from the host: 22 no call, 15 no manager's record, else the manager's.
pub record CallNumbers : Type 0 where
  pub no_call : call_refusal_number H.NoCall ≡ 22
  pub no_record : call_refusal_number (H.Refused R.InvalidRecord) ≡ 15
  pub manager : (k : Refusal) → call_refusal_number (H.Refused k) ≡ refusal_number k
