-- The flat records that a list of cards leads through are those of the managers that the rules' run of the cards' calls leads through, and
-- the Promise lines of the answers are those of the log. Assumes nothing.
use Rattle.std.specs.Prelude.{Option, None, Some, Result, Ok, Err, is_ok}
use Prim.Native.Nat.{ℕ, ◌+◌}
use mathlib.Core.Path.{◌≡◌, refl, ap, sym, subst, ◌∙◌}
use mathlib.Core.Bool.{Bool, true, false, cond}
use mathlib.Core.List.{List, [], ◌∷◌, ◌++◌}
use native.Mathlib.Omega.{arith}
use borrow.Author.Tests.{ne_eqb, eqb-true}
use lib.Dec.{eqb, ltb}
use Rattle.lease.specs.Types.{Bitmap, Reading, Clock}
use Rattle.lease.specs.declared.LeaseNum.{LeaseNum}
use Rattle.lease.specs.declared.LeaseNotice.{LeaseNotice}
use Rattle.lease.specs.declared.LeaseMsg.TheVariants as M
use Rattle.lease.specs.declared.LeaseAction.{LeaseAction}
use Rattle.lease.specs.declared.LeaseAction.TheVariants as A
use Rattle.lease.specs.declared.Line.{Line}
use Rattle.lease.specs.declared.Lines.{Lines}
use Rattle.lease.specs.declared.Lines.TheVariants as L
use Rattle.lease.specs.declared.Manager.{Manager}
use Rattle.lease.specs.declared.Answered.{Answered}
use Rattle.lease.specs.declared.Advanced.{Advanced}
use Rattle.lease.specs.declared.Refusal.{Refusal}
use Rattle.lease.specs.Sets.{one}
use Rattle.lease.specs.Calls.{advance_to, quiet_end, quiet_fires}
use Rattle.lease.specs.RecordCheck.{record_valid}
use Rattle.lease.specs.Refusals.{advance_refusal, refusal_number}
use Rattle.lease.specs.Rules.{notice_of, advance_of, quiet_of, refresh_of, drift_of, grant_set_of, lease_set_of, lease_cnt_of, time_left_of}
use Rattle.lease.specs.Verdicts.{Call, notice, advance, quiet-start, refresh, drift, grant-set, lease-set, lease-cnt, time-left, Verdict, refused, done, lines_of, by_notice, verdict}
use Rattle.lease.proofs.Judged.{judged-by}
use Rattle.lease_log.specs.Log.{Run, stamped, is_promise, promise_lines, noted, stepped, run_from, journal_at}
use Rattle.lease_log.specs.LogTheorem.{Typed, AllTyped, LogDecides}
use Rattle.lease_log.specs.Program.{left_by}
use Rattle.lease_log.proofs.LogFacts.{promise_lines-append}
use Rattle.lease_log.proofs.LogTheorem.{left-stepped, log-theorem}
use Rattle.wire.specs.declared.flat.ManagerC.{ManagerC}
use Rattle.wire.specs.Flat.{flat_of}
use Rattle.wire.specs.FromFlat.{manager_of}
use Rattle.wire.specs.Form.{is_record}
use Rattle.wire.specs.Lines.{line_of}
use Rattle.wire.specs.declared.answers.AnswerC.{AnswerC}
use Rattle.wire.specs.Answers.{refused_answer, no_lines, one_line, two_lines, lines_answer, notice_answer, fired_answer, advance_lines, advance_answer, plain_answer, set_answer, count_answer, time_left_answer}
use Rattle.wire.proofs.FlatLaws.{there_and_back, flat-is-record}
use Rattle.wire.specs.declared.calls.CallC.{CallC}
use Rattle.wire.specs.Cards.{is_call, lease_notice_of, peer_set_of, drift_setting_of}
use Rattle.biasflint.specs.declared.rules.CalledC.{CalledC}
use Rattle.biasflint.specs.Calls.{left, kept, notice_c, advance_c, quiet_c, refresh_c, drift_c, grant_set_c, lease_set_c, lease_cnt_c, time_left_c, question_c, outer_c, record_c, call_of}
use Rattle.biasflint.specs.History.{is_promise_line, promises_in, promises_from, after_cards, rule_call, set_up_by, is_set_up, History, run_by, journal_of, all_promises, after_card, history_from, history_of, AnswersByLog, HostLogTheorem}
use Rattle.wire.specs.Events.{card}
use Rattle.biasflint.proofs.CallLaws.{refused-keeps}
use Rattle.biasflint.proofs.OneCall.{call-leaves, grant-set-answers, lease-set-answers, lease-cnt-answers, no-call-leaves, setup-answers, setup-done, setup-leaves, setup-keeps, call-typed}

-- ---- the Promise lines of one answer are those that the call adds to the log

-- a line has code 4 exactly if it is a Promise line of the rules
promise-code : (x : Line) → one (is_promise_line (line_of x)) ≡ one (is_promise x.1)
unfolding line_of
promise-code x = go x.1
  where
    go : (a : LeaseAction) → one (is_promise_line (line_of (record { 0 = x.0; 1 = a }))) ≡ one (is_promise a)
    go (A.SendLeaseMsg q (M.Guard bar)) = refl
    go (A.SendLeaseMsg q M.GuardReply) = refl
    go (A.SendLeaseMsg q M.Promise) = refl
    go (A.SendLeaseMsg q (M.PromiseReply held)) = refl
    go (A.SendLeaseMsg q M.Revoke) = refl
    go (A.SendLeaseMsg q (M.RevokeReply held)) = refl
    go (A.BcastLeaseMsgs set (M.Guard None)) = refl
    go (A.BcastLeaseMsgs set (M.Guard (Some bar))) = refl
    go (A.BcastLeaseMsgs set M.GuardReply) = refl
    go (A.BcastLeaseMsgs set M.Promise) = refl
    go (A.BcastLeaseMsgs set (M.PromiseReply held)) = refl
    go (A.BcastLeaseMsgs set M.Revoke) = refl
    go (A.BcastLeaseMsgs set (M.RevokeReply held)) = refl
    go (A.NextRefresh q) = refl
    go (A.GrantRemoved q held) = refl
    go A.LeaseCleared = refl
    go (A.GrantTimeout q) = refl
    go (A.LeaseTimeout q) = refl
    go A.HigherNumber = refl
    go (A.GuardAcceptBar q bar) = refl

lines-counted : (r : Reading) (k : Clock) (lines : Lines) → promises_in (lines_answer lines) ≡ promise_lines (stamped r k (lines_of lines))
unfolding lines_answer no_lines one_line two_lines
lines-counted r k L.None = refl
lines-counted r k (L.One a) = let x = promise-code a in omega arith
lines-counted r k (L.Two a b) = let x = promise-code a in let y = promise-code b in omega arith
lines-counted r k (L.Three a b c) = let x = promise-code a in let y = promise-code b in let z = promise-code c in omega arith

refused-counted : (k : ℕ) → promises_in (refused_answer k) ≡ 0
unfolding refused_answer
refused-counted k = refl

plain-counted : (o : Result (Unit {0}) Refusal) → promises_in (plain_answer o) ≡ 0
unfolding plain_answer refused_answer no_lines
plain-counted (Ok tt) = refl
plain-counted (Err k) = refl

set-counted : (o : Result Bitmap Refusal) → promises_in (set_answer o) ≡ 0
unfolding set_answer refused_answer one_line
set-counted (Ok set) = refl
set-counted (Err k) = refl

count-counted : (o : Result ℕ Refusal) → promises_in (count_answer o) ≡ 0
unfolding count_answer refused_answer one_line
count-counted (Ok n) = refl
count-counted (Err k) = refl

time-left-counted : (o : Result (Option ℕ) Refusal) → promises_in (time_left_answer o) ≡ 0
unfolding time_left_answer refused_answer one_line
time-left-counted (Ok None) = refl
time-left-counted (Ok (Some n)) = refl
time-left-counted (Err k) = refl

-- the quiet-end line is no Promise line
quiet-end-counted : (sent held : Bitmap) (b : Bool) (own n : ℕ) → promises_in (fired_answer sent held (quiet_end b own n)) ≡ 0
unfolding fired_answer one_line two_lines line_of
quiet-end-counted sent held true own n = refl
quiet-end-counted sent held false own n = refl

advance-counted : (m : Manager) (to : Reading) → promises_in (advance_answer (advance_of m to).outcome) ≡ 0
unfolding advance_of advance_to advance_answer advance_lines refused_answer
advance-counted m to =
    judged-by (λ (a : Answered Advanced). promises_in (advance_answer a.outcome) ≡ 0) (record_valid m) (advance_refusal m.now to)
    (λ k. record { outcome = Err k; manager = m }) (advance_to m to) (λ k. refl) (λ z. quiet-end-counted _ _ (quiet_fires to m.quiet_timer) m.me m.population)

-- on a run r by the rules
module _ (r : Run) where
  -- what is claimed of a call's result a: its Promise lines are those that the call x adds to the log
  abbrev Counts : CalledC → Call → Type 0
  Counts a x = promise_lines (stepped r x (verdict r.manager x)).journal.log ≡ promise_lines r.journal.log + promises_in a.answer

  -- any call but a notice adds none
  no-lines : (x : Call) → ((l : List Line) → (noted r.journal x l).log ≡ r.journal.log) → (v : Verdict) (n : ℕ) → n ≡ 0
      → promise_lines (stepped r x v).journal.log ≡ promise_lines r.journal.log + n
  no-lines x h (refused k) n z = omega arith
  no-lines x h (done l m) n z = let e = ap promise_lines (h l) in omega arith

  notice-counts : (c : CallC) → Counts (notice_c (flat_of r.manager) c) (notice (record { 0 = c.number }) (lease_notice_of c))
  unfolding notice_c left notice_answer
  notice-counts c =
      let num : LeaseNum = record { 0 = c.number } in
      let x = lease_notice_of c in
      subst (λ (z : Manager). Counts (left (flat_of r.manager) (notice_answer (notice_of z num x).outcome) (notice_of z num x).manager) (notice num x)) (sym (there_and_back r.manager))
      (go num x (notice_of r.manager num x).outcome (notice_of r.manager num x).manager)
    where
      go : (num : LeaseNum) (x : LeaseNotice) (o : Result Lines Refusal) (m : Manager)
          → promise_lines (stepped r (notice num x) (by_notice o m)).journal.log ≡ promise_lines r.journal.log + promises_in (notice_answer o)
      go num x (Err k) m = let e = refused-counted (refusal_number k) in omega arith
      go num x (Ok lines) m =
          let e = promise_lines-append r.journal.log (stamped r.journal.now r.journal.clock (lines_of lines)) in
          let f = lines-counted r.journal.now r.journal.clock lines in
          omega arith

  -- it holds of either if it holds of both
  either-counts : (b : Bool) (a b' : CalledC) (p q : Call) → Counts a p → Counts b' q → Counts (cond b a b') (cond b p q)
  either-counts true a b' p q h k = h
  either-counts false a b' p q h k = k

  record-counts : (c : CallC) → Counts (record_c (flat_of r.manager) c) (rule_call c)
  unfolding record_c outer_c question_c advance_c quiet_c refresh_c drift_c grant_set_c lease_set_c lease_cnt_c time_left_c kept left
  record-counts c =
      let to : Reading = record { 0 = c.number } in
      let z = manager_of (flat_of r.manager) in
      either-counts (eqb c.code 2) _ _ _ _ (no-lines (advance to) (λ l. refl) (verdict r.manager (advance to)) _ (advance-counted z to))
      (either-counts (ltb c.code 9) _ _ _ _ (notice-counts c)
      (either-counts (eqb c.code 9) _ _ _ _ (no-lines quiet-start (λ l. refl) (verdict r.manager quiet-start) _ (plain-counted (quiet_of z).outcome))
      (either-counts (eqb c.code 10) _ _ _ _ (no-lines (refresh (peer_set_of c)) (λ l. refl) (verdict r.manager (refresh (peer_set_of c))) _ (set-counted (refresh_of z (peer_set_of c)).outcome))
      (either-counts (eqb c.code 11) _ _ _ _ (no-lines (drift (drift_setting_of c)) (λ l. refl) (verdict r.manager (drift (drift_setting_of c))) _ (plain-counted (drift_of z (drift_setting_of c)).outcome))
      (either-counts (eqb c.code 12) _ _ _ _ (no-lines grant-set (λ l. refl) (verdict r.manager grant-set) _ (set-counted (grant_set_of z)))
      (either-counts (eqb c.code 13) _ _ _ _ (no-lines lease-set (λ l. refl) (verdict r.manager lease-set) _ (set-counted (lease_set_of z)))
      (either-counts (eqb c.code 14) _ _ _ _ (no-lines lease-cnt (λ l. refl) (verdict r.manager lease-cnt) _ (count-counted (lease_cnt_of z)))
      (no-lines (time-left c.peer) (λ l. refl) (verdict r.manager (time-left c.peer)) _ (time-left-counted (time_left_of z c.peer))))))))))

  -- a card that is a call and no set-up
  call-counts : (c : CallC) → is_call c ≡ true → eqb c.code 1 ≡ false → Counts (call_of (flat_of r.manager) c) (rule_call c)
  unfolding call_of
  call-counts c h n = rw (h, n, flat-is-record r.manager) (record-counts c)

-- a card that is no call
no-call-counts : (f : ManagerC) (c : CallC) → is_call c ≡ false → promises_in (call_of f c).answer ≡ 0
unfolding call_of kept
no-call-counts f c h = rw h (refused-counted 22)

-- ---- one call more

one-more : (r : Run) (cs : List Call) (x : Call) → run_from r (cs ++ (x ∷ [])) ≡ stepped (run_from r cs) x (verdict (run_from r cs).manager x)
one-more r [] x = refl
one-more r (c ∷ cs) x = one-more (stepped r c (verdict r.manager c)) cs x

typed-more : (cs : List Call) (x : Call) → AllTyped cs → Typed x → AllTyped (cs ++ (x ∷ []))
typed-more [] x h t = (t, tt)
typed-more (c ∷ cs) x h t = (h.0, typed-more cs x h.1 t)

-- ---- a history whose record is f

pub record Led (h : History) (f : ManagerC) : Type 0 where
  pub accepted : (set_up_by h.set_up).outcome ≡ Ok tt
  pub typed : AllTyped h.calls
  pub here : f ≡ flat_of (run_by h).manager

-- one card: the record that it leaves is that of the next history, and its Promise lines are all that come
pub record LedOn (h : History) (f : ManagerC) (next : History) (r : CalledC) : Type 0 where
  pub led : Led next r.manager
  pub counted : all_promises next ≡ all_promises h + promises_in r.answer

stays : (h : History) (f : ManagerC) (r : CalledC) → Led h f → r.manager ≡ f → promises_in r.answer ≡ 0 → LedOn h f h r
stays h f r d e z = record {
  led = record { accepted = d.accepted; typed = d.typed; here = e ∙ d.here };
  counted = omega arith;
}

pub card-leads : (h : History) (f : ManagerC) (c : CallC) → Led h f → LedOn h f (after_card h c) (call_of f c)
card-leads h f c d = go (eqb c.code 1) refl
  where
    -- a set-up card, by the rules' outcome
    anew : c.code ≡ 1 → (o : Result (Unit {0}) Refusal) → (set_up_by c).outcome ≡ o
        → LedOn h f (cond (is_ok o) (record { set_up = c; calls = []; earlier = all_promises h }) h) (call_of f c)
    anew e (Ok tt) q =
        let a : promises_in (call_of f c).answer ≡ 0 = ap promises_in (setup-answers f c e) ∙ plain-counted (set_up_by c).outcome in
        record {
          led = record { accepted = q; typed = tt; here = setup-leaves f c e q };
          counted = omega arith;
        }
    anew e (Err k) q = stays h f (call_of f c) d (setup-keeps f c e k q) (ap promises_in (setup-answers f c e) ∙ plain-counted (set_up_by c).outcome)

    -- any other
    other : eqb c.code 1 ≡ false → (b : Bool) → is_call c ≡ b
        → LedOn h f (cond b (record { set_up = h.set_up; calls = h.calls ++ (rule_call c ∷ []); earlier = h.earlier }) h) (call_of f c)
    other n true e =
        let r = run_by h in
        let x = rule_call c in
        let more = one-more (record { manager = (set_up_by h.set_up).manager; journal = journal_at (record { 0 = h.set_up.number }) }) h.calls x in
        let to : (call_of f c).manager ≡ flat_of (left_by r.manager (verdict r.manager x)) = ap (λ (z : ManagerC). (call_of z c).manager) d.here ∙ call-leaves r.manager c e n in
        let counts : promise_lines (stepped r x (verdict r.manager x)).journal.log ≡ promise_lines r.journal.log + promises_in (call_of f c).answer =
        subst (λ (z : ManagerC). promise_lines (stepped r x (verdict r.manager x)).journal.log ≡ promise_lines r.journal.log + promises_in (call_of z c).answer) (sym d.here) (call-counts r c e n) in
        let same = ap (λ (z : Run). promise_lines z.journal.log) more in
        record {
          led = record {
            accepted = d.accepted;
            typed = typed-more h.calls x d.typed (call-typed c);
            here = to ∙ ap flat_of (sym (ap (λ (z : Run). z.manager) more ∙ left-stepped r x (verdict r.manager x)));
          };
          counted = omega arith;
        }
    other n false e = stays h f (call_of f c) d (no-call-leaves f c e) (no-call-counts f c e)

    go : (b : Bool) → eqb c.code 1 ≡ b
        → LedOn h f (cond b (cond (is_ok (set_up_by c).outcome) (record { set_up = c; calls = []; earlier = all_promises h }) h)
        (cond (is_call c) (record { set_up = h.set_up; calls = h.calls ++ (rule_call c ∷ []); earlier = h.earlier }) h)) (call_of f c)
    go true e = anew (eqb-true c.code 1 e) (set_up_by c).outcome refl
    go false e = other e (is_call c) refl

-- ---- every list of cards

cards-lead : (cs : List CallC) (h : History) (f : ManagerC) → Led h f → Led (history_from h cs) (after_cards f cs)
cards-lead [] h f d = d
cards-lead (c ∷ cs) h f d = cards-lead cs (after_card h c) (call_of f c).manager (card-leads h f c d).led

cards-count : (cs : List CallC) (h : History) (f : ManagerC) → Led h f → all_promises (history_from h cs) ≡ all_promises h + promises_from f cs
cards-count [] h f d = omega arith
cards-count (c ∷ cs) h f d =
    let one = card-leads h f c d in
    let rest = cards-count cs (after_card h c) (call_of f c).manager one.led in
    let here = one.counted in
    omega arith

-- the history of an accepted set-up card alone
begun : (f : ManagerC) (c : CallC) → c.code ≡ 1 → (call_of f c).answer.refused ≡ 0 → Led (history_of c []) (call_of f c).manager
begun f c e ok =
    let q = setup-done f c e ok in
    record { accepted = q; typed = tt; here = setup-leaves f c e q }

-- what the questions answer
asked : (h : History) (f : ManagerC) → Led h f → (n : ℕ) → n ≡ all_promises h → (g l k : CallC) → g.code ≡ 12 → l.code ≡ 13 → k.code ≡ 14
    → AnswersByLog h (call_of f g).answer (call_of f l).answer (call_of f k).answer n
asked h f d n e g l k eg el ek =
    let m = (run_by h).manager in
    let s = h.set_up in
    let t : LogDecides s.peer s.size s.first m (journal_of h) = log-theorem s.peer s.size s.first s.second (record { 0 = s.number }) d.accepted h.calls d.typed in
    record {
      grants = ap (λ (x : ManagerC). (call_of x g).answer) d.here ∙ grant-set-answers m g eg ∙ ap set_answer t.grants;
      leases = ap (λ (x : ManagerC). (call_of x l).answer) d.here ∙ lease-set-answers m l el ∙ ap set_answer t.leases;
      count = ap (λ (x : ManagerC). (call_of x k).answer) d.here ∙ lease-cnt-answers m k ek ∙ ap count_answer t.count;
      balanced = t.promises;
      promise_count = e;
    }

-- THE LOG THEOREM of a list of cards
pub host-log-theorem : HostLogTheorem
host-log-theorem f c e ok cards g l k eg el ek =
    let s = begun f c e ok in
    let m = (call_of f c).manager in
    let n : promises_from m cards ≡ all_promises (history_of c cards) = let e = cards-count cards (history_of c []) m s in omega arith in
    asked (history_of c cards) (after_cards m cards) (cards-lead cards (history_of c []) m s) (promises_from m cards) n g l k eg el ek

-- ---- what the code has in the end

-- a question leaves the record
either-keeps : (f : ManagerC) (b : Bool) (x y : CalledC) → x.manager ≡ f → y.manager ≡ f → (cond b x y).manager ≡ f
either-keeps f true x y p q = p
either-keeps f false x y p q = q

grant-set-keeps : (f : ManagerC) → (call_of f (card 12 0 0 0 0 0)).manager ≡ f
unfolding call_of is_call record_c outer_c question_c grant_set_c kept
grant-set-keeps f = either-keeps f (is_record f) _ _ refl refl

lease-set-keeps : (f : ManagerC) → (call_of f (card 13 0 0 0 0 0)).manager ≡ f
unfolding call_of is_call record_c outer_c question_c lease_set_c kept
lease-set-keeps f = either-keeps f (is_record f) _ _ refl refl

lease-cnt-keeps : (f : ManagerC) → (call_of f (card 14 0 0 0 0 0)).manager ≡ f
unfolding call_of is_call record_c outer_c question_c lease_cnt_c kept
lease-cnt-keeps f = either-keeps f (is_record f) _ _ refl refl

-- a call of the code on f: its answer, and the record that it leaves
abbrev pub Called : ManagerC → CallC → AnswerC → ManagerC → Type 0
Called f c a f' = (a ≡ (call_of f c).answer) × (f' ≡ (call_of f c).manager)

module _ (f f₁ e e₁ e₂ e₃ : ManagerC) (c : CallC) (a g l k : AnswerC) (cards : List CallC) (n : ℕ)
    (set_up : Called f c a f₁) (is-1 : c.code ≡ 1) (ok : a.refused ≡ 0) (led : e ≡ after_cards f₁ cards) (counted : n ≡ promises_from f₁ cards)
    (ag : Called e (card 12 0 0 0 0 0) g e₁) (al : Called e₁ (card 13 0 0 0 0 0) l e₂) (ak : Called e₂ (card 14 0 0 0 0 0) k e₃) where
  to_e : e ≡ after_cards (call_of f c).manager cards
  to_e = led ∙ ap (λ (z : ManagerC). after_cards z cards) set_up.1

  to_e₁ : e₁ ≡ after_cards (call_of f c).manager cards
  to_e₁ = ag.1 ∙ grant-set-keeps e ∙ to_e

  to_e₂ : e₂ ≡ after_cards (call_of f c).manager cards
  to_e₂ = al.1 ∙ lease-set-keeps e₁ ∙ to_e₁

  pub ends-where : e₃ ≡ after_cards f (c ∷ cards)
  ends-where = ak.1 ∙ lease-cnt-keeps e₂ ∙ to_e₂

  pub ends-by-log : AnswersByLog (history_of c cards) g l k n
  ends-by-log =
      let t = host-log-theorem f c is-1 (ap (λ (z : AnswerC). z.refused) (sym set_up.0) ∙ ok) cards (card 12 0 0 0 0 0) (card 13 0 0 0 0 0) (card 14 0 0 0 0 0) refl refl refl in
      record {
        grants = ag.0 ∙ ap (λ (z : ManagerC). (call_of z (card 12 0 0 0 0 0)).answer) to_e ∙ t.grants;
        leases = al.0 ∙ ap (λ (z : ManagerC). (call_of z (card 13 0 0 0 0 0)).answer) to_e₁ ∙ t.leases;
        count = ak.0 ∙ ap (λ (z : ManagerC). (call_of z (card 14 0 0 0 0 0)).answer) to_e₂ ∙ t.count;
        balanced = t.balanced;
        promise_count = counted ∙ ap (λ (z : ManagerC). promises_from z cards) set_up.1 ∙ t.promise_count;
      }

module _ (f f₁ : ManagerC) (c : CallC) (a : AnswerC) (set_up : Called f c a f₁) (is-1 : c.code ≡ 1) where
  -- accepted exactly if it is an accepted set-up card
  pub accepted-is : a.refused ≡ 0 → true ≡ is_set_up c
  accepted-is ok = rw is-1 (sym (ap is_ok (setup-done f c is-1 (ap (λ (z : AnswerC). z.refused) (sym set_up.0) ∙ ok))))

  pub refused-is : (a.refused ≡ 0 → ⊥) → false ≡ is_set_up c
  unfolding plain_answer no_lines
  refused-is not-0 = go (set_up_by c).outcome (ap (λ (z : AnswerC). z.refused) (set_up.0 ∙ setup-answers f c is-1))
    where
      go : (o : Result (Unit {0}) Refusal) → a.refused ≡ (plain_answer o).refused → false ≡ cond (eqb c.code 1) (is_ok o) false
      go (Ok tt) e = absurd (not-0 e)
      go (Err k) e = rw is-1 refl

  -- a refused one leaves the record
  pub refused-leaves : (a.refused ≡ 0 → ⊥) → f₁ ≡ f
  refused-leaves not-0 = set_up.1 ∙ refused-keeps f c (ne_eqb (call_of f c).answer.refused 0 (λ z. not-0 (ap (λ (x : AnswerC). x.refused) set_up.0 ∙ z)))
