-- What the cards of an input say to the manager: the set-up that was accepted, and the calls after it. Definitions only.
use Rattle.std.specs.Prelude.{ℕ, List, [], ◌∷◌, ◌++◌, Option, None, Some, Result, Ok, Err}
use Rattle.lease.specs.declared.Refusal.{Refusal}
use Rattle.lease.specs.SetUp.{setup_of}
use Rattle.lease.specs.Verdicts.{Call, notice, advance}
use Rattle.lease_log.specs.Log.{Run}
use Rattle.lease_log.specs.LogTheorem.{run_of}
use Rattle.wire.specs.declared.events.SetUpCall.{SetUpCall}
use Rattle.wire.specs.declared.events.Event.{Event}
use Rattle.wire.specs.declared.events.Event.TheVariants as E
use Rattle.wire.specs.declared.events.CardRefusal.{CardRefusal}
use Rattle.card_text.specs.Cards.{cards_in}

-- A set-up, and the calls after it, in order.
pub record CardCalls : Type 0 where
  pub set_up : SetUpCall
  pub calls : List Call

-- A set-up that is refused leaves the next one allowed.
abbrev pub with_set_up : SetUpCall → Result (Unit {0}) Refusal → Option CardCalls
with_set_up u (Err k) = None
with_set_up u (Ok tt) = Some (record { set_up = u; calls = [] })

abbrev pub with_call : CardCalls → Call → CardCalls
with_call x c = record { set_up = x.set_up; calls = x.calls ++ (c ∷ []) }

-- What one card adds. A card that is not of the form or no card says nothing; nor does a card before set-up, or a second set-up.
abbrev pub with_card : Option CardCalls → Result Event CardRefusal → Option CardCalls
with_card x (Err k) = x
with_card None (Ok (E.SetUp u)) = with_set_up u (setup_of u.me u.population u.expire_timeout u.heartbeat u.now).outcome
with_card None (Ok (E.Advance to)) = None
with_card None (Ok (E.Notice num n)) = None
with_card (Some x) (Ok (E.SetUp u)) = Some x
with_card (Some x) (Ok (E.Advance to)) = Some (with_call x (advance to))
with_card (Some x) (Ok (E.Notice num n)) = Some (with_call x (notice num n))

unfoldable pub with_cards : Option CardCalls → List (Result Event CardRefusal) → Option CardCalls
with_cards x [] = x
with_cards x (c ∷ cs) = with_cards (with_card x c) cs

-- By a whole input.
abbrev pub calls_of : List ℕ → Option CardCalls
calls_of input = with_cards None (cards_in input)

-- The rules' run over those calls from that set-up, with its log.
abbrev pub run_of_cards : CardCalls → Run
run_of_cards x = let u = x.set_up in run_of u.me u.population u.expire_timeout u.heartbeat u.now x.calls
