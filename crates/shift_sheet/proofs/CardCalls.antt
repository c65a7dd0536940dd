-- What the cards of an input say to the manager (specs/CardCalls) is what the session has come to: its record is that of the rules' run
-- over the calls. Assumes nothing.
use Rattle.std.specs.Prelude.{Option, None, Some, Result, Ok, Err}
use mathlib.Core.Path.{◌≡◌, refl, ap, sym, subst, ◌∙◌}
use mathlib.Core.List.{List, [], ◌∷◌, ◌++◌}
use Rattle.lease.specs.declared.Answered.{Answered}
use Rattle.lease.specs.declared.Refusal.{Refusal}
use Rattle.lease.specs.declared.Lines.{Lines}
use Rattle.lease.specs.declared.LeaseNum.{LeaseNum}
use Rattle.lease.specs.declared.LeaseNotice.{LeaseNotice}
use Rattle.lease.specs.declared.Advanced.{Advanced}
use Rattle.lease.specs.declared.Manager.{Manager}
use Rattle.lease.specs.Types.{Reading}
use Rattle.lease.specs.SetUp.{setup_of}
use Rattle.lease.specs.Rules.{notice_of, advance_of}
use Rattle.lease.specs.Verdicts.{Call, notice, advance, by_notice, by_advance, verdict}
use Rattle.lease_log.specs.Log.{never, Run, stepped, run_from}
use Rattle.lease_log.specs.LogTheorem.{Typed, AllTyped}
use Rattle.wire.specs.declared.events.SetUpCall.{SetUpCall}
use Rattle.wire.specs.declared.events.Event.{Event}
use Rattle.wire.specs.declared.events.Event.TheVariants as E
use Rattle.wire.specs.declared.events.CardRefusal.{CardRefusal}
use Rattle.card_stream.specs.declared.session.Session.{Session}
use Rattle.card_stream.specs.Sessions.{counted, with_manager, given_by, refused_card, set_up_result, set_up_event, advance_result, advance_event, notice_result, notice_event, event_given, card_given}
use Rattle.card_stream.specs.Reader.{session_after}
use Rattle.shift_sheet.specs.CardCalls.{CardCalls, with_set_up, with_call, with_card, with_cards, run_of_cards}

-- ---- a call more

-- the run over one call more is one step more
run_from-more : (l : List Call) (r : Run) (c : Call) → run_from r (l ++ (c ∷ [])) ≡ stepped (run_from r l) c (verdict (run_from r l).manager c)
run_from-more [] r c = refl
run_from-more (d ∷ l) r c = run_from-more l (stepped r d (verdict r.manager d)) c

-- the run of the cards with a call more is one step more
pub run-more : (x : CardCalls) (c : Call) → run_of_cards (with_call x c) ≡ stepped (run_of_cards x) c (verdict (run_of_cards x).manager c)
run-more x c = run_from-more x.calls _ c

-- with a typed call more the calls are typed
typed-more : (l : List Call) (c : Call) → AllTyped l → Typed c → AllTyped (l ++ (c ∷ []))
typed-more [] c f k = (k, tt)
typed-more (d ∷ l) c f k = (f.0, typed-more l c f.1 k)

-- ---- the record

-- That of the rules' run over the cards' calls.
abbrev pub manager_of : Option CardCalls → Option Manager
manager_of None = None
manager_of (Some x) = Some (run_of_cards x).manager

-- What a card's set-up gives.
abbrev pub set_up_by : SetUpCall → Answered (Unit {0})
set_up_by u = setup_of u.me u.population u.expire_timeout u.heartbeat u.now

module _ (s : Session) where
  -- a set-up, refused or done
  set-up-same : s.manager ≡ None → (u : SetUpCall) (o : Result (Unit {0}) Refusal)
      → (set_up_result s o (set_up_by u).manager).session.manager ≡ manager_of (with_set_up u o)
  unfolding refused_card given_by with_manager
  set-up-same e u (Err k) = e
  set-up-same e u (Ok tt) = refl

  -- an advance and a notice, refused or done, after a run r
  module _ (r : Run) (e : s.manager ≡ Some r.manager) where
    advance-same : (to : Reading) (o : Result Advanced Refusal) (m : Manager)
        → (advance_result s o m).session.manager ≡ Some (stepped r (advance to) (by_advance o m)).manager
    unfolding refused_card given_by with_manager
    advance-same to (Err k) m = e
    advance-same to (Ok a) m = refl

    notice-same : (num : LeaseNum) (x : LeaseNotice) (o : Result Lines Refusal) (m : Manager)
        → (notice_result s o m).session.manager ≡ Some (stepped r (notice num x) (by_notice o m)).manager
    unfolding refused_card given_by with_manager
    notice-same num x (Err k) m = e
    notice-same num x (Ok a) m = refl

  -- whatever a card says, the session has the record of the run with it
  event-same :
      (x : Option CardCalls) → s.manager ≡ manager_of x → (ev : Event)
      → (event_given s (manager_of x) ev).session.manager ≡ manager_of (with_card x (Ok ev))
  unfolding event_given set_up_event advance_event notice_event refused_card given_by
  event-same None e (E.SetUp u) = set-up-same e u (set_up_by u).outcome
  event-same None e (E.Advance to) = e
  event-same None e (E.Notice num n) = e
  event-same (Some x) e (E.SetUp u) = e
  event-same (Some x) e (E.Advance to) =
      let a = advance_of (run_of_cards x).manager to in
      advance-same (run_of_cards x) e to a.outcome a.manager ∙ ap (λ (r : Run). Some r.manager) (sym (run-more x (advance to)))
  event-same (Some x) e (E.Notice num n) =
      let a = notice_of (run_of_cards x).manager num n in
      notice-same (run_of_cards x) e num n a.outcome a.manager ∙ ap (λ (r : Run). Some r.manager) (sym (run-more x (notice num n)))

-- so too where it is not of the form or no card
card-same : (s : Session) (x : Option CardCalls) → s.manager ≡ manager_of x → (c : Result Event CardRefusal)
    → (card_given s c).session.manager ≡ manager_of (with_card x c)
unfolding card_given counted refused_card given_by
card-same s x e (Err k) = e
card-same s x e (Ok ev) =
    subst (λ b. (event_given (counted s) b ev).session.manager ≡ manager_of (with_card x (Ok ev))) (sym e) (event-same (counted s) x e ev)

-- and after all cards
pub cards-same : (cs : List (Result Event CardRefusal)) (s : Session) (x : Option CardCalls) → s.manager ≡ manager_of x
    → (session_after s cs).manager ≡ manager_of (with_cards x cs)
unfolding session_after with_cards
cards-same [] s x e = e
cards-same (c ∷ cs) s x e = cards-same cs (card_given s c).session (with_card x c) (card-same s x e c)

-- ---- the cards' calls

-- The set-up was accepted, the calls are typed, and no call has started quiet time.
pub record Sound (x : CardCalls) : Type 0 where
  pub accepted : (set_up_by x.set_up).outcome ≡ Ok tt
  pub typed : AllTyped x.calls
  pub no_quiet : (run_of_cards x).journal.quiet ≡ never

abbrev pub AllSound : Option CardCalls → Type 0
AllSound None = Unit {0}
AllSound (Some x) = Sound x

-- an advance, refused or done, starts no quiet time
advance_quiet : (r : Run) (to : Reading) (o : Result Advanced Refusal) (m : Manager)
    → (stepped r (advance to) (by_advance o m)).journal.quiet ≡ r.journal.quiet
advance_quiet r to (Err k) m = refl
advance_quiet r to (Ok a) m = refl

-- nor does a notice
notice_quiet : (r : Run) (num : LeaseNum) (x : LeaseNotice) (o : Result Lines Refusal) (m : Manager)
    → (stepped r (notice num x) (by_notice o m)).journal.quiet ≡ r.journal.quiet
notice_quiet r num x (Err k) m = refl
notice_quiet r num x (Ok a) m = refl

-- such a call more leaves them sound
sound-more : (x : CardCalls) (c : Call) → Sound x → Typed c
    → (stepped (run_of_cards x) c (verdict (run_of_cards x).manager c)).journal.quiet ≡ (run_of_cards x).journal.quiet
    → Sound (with_call x c)
sound-more x c k f q = record {
  accepted = k.accepted;
  typed = typed-more x.calls c k.typed f;
  no_quiet = ap (λ (r : Run). r.journal.quiet) (run-more x c) ∙ q ∙ k.no_quiet;
}

-- and so does a set-up
sound-set-up : (u : SetUpCall) (o : Result (Unit {0}) Refusal) → (set_up_by u).outcome ≡ o → AllSound (with_set_up u o)
sound-set-up u (Err k) e = tt
sound-set-up u (Ok tt) e = record { accepted = e; typed = tt; no_quiet = refl }

-- whatever a card says
card-sound : (x : Option CardCalls) → AllSound x → (c : Result Event CardRefusal) → AllSound (with_card x c)
card-sound x k (Err j) = k
card-sound None k (Ok (E.SetUp u)) = sound-set-up u (set_up_by u).outcome refl
card-sound None k (Ok (E.Advance to)) = tt
card-sound None k (Ok (E.Notice num n)) = tt
card-sound (Some x) k (Ok (E.SetUp u)) = k
card-sound (Some x) k (Ok (E.Advance to)) =
    let a = advance_of (run_of_cards x).manager to in
    sound-more x (advance to) k tt (advance_quiet (run_of_cards x) to a.outcome a.manager)
card-sound (Some x) k (Ok (E.Notice num n)) =
    let a = notice_of (run_of_cards x).manager num n in
    sound-more x (notice num n) k tt (notice_quiet (run_of_cards x) num n a.outcome a.manager)

-- and whatever all cards say
pub cards-sound : (cs : List (Result Event CardRefusal)) (x : Option CardCalls) → AllSound x → AllSound (with_cards x cs)
unfolding with_cards
cards-sound [] x k = k
cards-sound (c ∷ cs) x k = cards-sound cs (with_card x c) (card-sound x k c)
