-- The numbers of the refusals of cards and of calls from the host (rules 10.15, 10.21 to 10.23). Definitions only.
use Rattle.std.specs.Prelude.{ℕ, ◌≡◌}
use Rattle.lease.specs.Refusals.{refusal_number}
use Rattle.lease.specs.declared.Refusal.{Refusal}
use Rattle.wire.specs.declared.answers.CallRefusal.{CallRefusal}
use Rattle.wire.specs.declared.answers.CallRefusal.TheVariants as H
use Rattle.wire.specs.declared.events.CardRefusal.{CardRefusal}
use Rattle.wire.specs.declared.events.CardRefusal.TheVariants as C

-- 21 to 23 are the cards' own, the others those of the call that the card says.
abbrev pub card_refusal_number : CardRefusal → ℕ
card_refusal_number C.NotOfForm = 21
card_refusal_number C.NoCard = 22
card_refusal_number C.OutOfTurn = 23
card_refusal_number (C.Call k) = refusal_number k

-- A refusal of the call is the card's.
abbrev pub CardRefusalOf : Refusal → CardRefusal → Type 0
CardRefusalOf k c = c ≡ C.Call k

-- 22 is the host library's own, the others those of the call that the card is.
abbrev pub call_refusal_number : CallRefusal → ℕ
call_refusal_number H.NoCall = 22
call_refusal_number (H.Refused k) = refusal_number k

-- A refusal of the manager's is the call's.
abbrev pub CallRefusalOf : Refusal → CallRefusal → Type 0
CallRefusalOf k c = c ≡ H.Refused k
