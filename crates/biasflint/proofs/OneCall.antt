-- One call on the flat record of a manager does what the rule does on the manager: it leaves the flat record of what the rule leaves, and a
-- question answers what the rule answers. Assumes nothing.
use Rattle.std.specs.Prelude.{Option, None, Some, Result, Ok, Err}
use mathlib.Core.Path.{◌≡◌, refl, sym, ap, subst, ◌∙◌}
use mathlib.Core.Bool.{Bool, true, false, cond}
use Prim.Native.Nat.{ℕ}
use native.Mathlib.Omega.{arith}
use lib.Dec.{eqb, ltb}
use borrow.Author.Tests.{ne_eqb}
use Rattle.lease.specs.declared.Refusal.{Refusal}
use Rattle.lease.specs.declared.Lines.{Lines}
use Rattle.lease.specs.declared.Line.{Line}
use Rattle.lease.specs.Types.{Bitmap, Reading}
use Rattle.lease.specs.declared.LeaseNum.{LeaseNum}
use Rattle.lease.specs.declared.Lines.TheVariants as L
use Rattle.lease.specs.declared.Manager.{Manager}
use Rattle.lease.specs.declared.Advanced.{Advanced}
use Rattle.lease.specs.Refusals.{refusal_number}
use Rattle.lease.specs.declared.Refusal.TheVariants as R
use Rattle.lease.specs.Rules.{notice_of, advance_of, quiet_of, refresh_of, drift_of, grant_set_of, lease_set_of, lease_cnt_of, time_left_of}
use Rattle.lease.specs.Verdicts.{Call, notice, advance, quiet-start, refresh, drift, by_notice, by_advance, by_plain, by_set, by_count, by_time_left, verdict}
use Rattle.lease.proofs.RuleClaims.{refusals-keep}
use Rattle.lease_log.specs.LogTheorem.{Typed}
use Rattle.lease_log.specs.Program.{left_by}
use Rattle.wire.specs.declared.flat.ManagerC.{ManagerC}
use Rattle.wire.specs.Flat.{flat_of}
use Rattle.wire.specs.declared.answers.AnswerC.{AnswerC}
use Rattle.wire.proofs.FlatLaws.{there_and_back, flat-is-record}
use Rattle.wire.specs.Answers.{refused_answer, no_lines, one_line, two_lines, lines_answer, notice_answer, fired_answer, advance_lines, with_fired, advance_answer, plain_answer, set_answer, count_answer}
use Rattle.wire.specs.declared.calls.CallC.{CallC}
use Rattle.wire.specs.Cards.{is_call, lease_notice_of, peer_set_of, percent_of, drift_setting_of}
use Rattle.wire.proofs.Percent.{fits8}
use Rattle.biasflint.specs.declared.rules.CalledC.{CalledC}
use Rattle.biasflint.specs.Calls.{left, kept, setup_c, notice_c, advance_c, quiet_c, refresh_c, drift_c, grant_set_c, lease_set_c, lease_cnt_c, time_left_c, question_c, outer_c, record_c, call_of}
use Rattle.biasflint.specs.History.{rule_call, set_up_by}

-- ---- the record that is left

-- a refusal by the number k leaves the record that was lent, whatever k is
refused-left : (b : Bool) (m m' : Manager) → m' ≡ m → cond b (flat_of m') (flat_of m) ≡ flat_of m
refused-left true m m' e = ap flat_of e
refused-left false m m' e = refl

module _ (m : Manager) where
  -- an outcome o of a rule whose record is m': what the call leaves is what the verdict leaves
  notice-left : (o : Result Lines Refusal) (m' : Manager) → ((k : Refusal) → o ≡ Err k → m' ≡ m)
      → (left (flat_of m) (notice_answer o) m').manager ≡ flat_of (left_by m (by_notice o m'))
  unfolding left notice_answer refused_answer lines_answer no_lines one_line two_lines
  notice-left (Err k) m' h = refused-left (eqb (refusal_number k) 0) m m' (h k refl)
  notice-left (Ok L.None) m' h = refl
  notice-left (Ok (L.One a)) m' h = refl
  notice-left (Ok (L.Two a b)) m' h = refl
  notice-left (Ok (L.Three a b c)) m' h = refl

  advance-left : (o : Result Advanced Refusal) (m' : Manager) → ((k : Refusal) → o ≡ Err k → m' ≡ m)
      → (left (flat_of m) (advance_answer o) m').manager ≡ flat_of (left_by m (by_advance o m'))
  unfolding left advance_answer advance_lines refused_answer fired_answer one_line two_lines
  advance-left (Err k) m' h = refused-left (eqb (refusal_number k) 0) m m' (h k refl)
  advance-left (Ok a) m' h = go a.quiet_end
    where
      go : (end : Option Line) → (left (flat_of m) (with_fired (fired_answer a.sent a.held end) a.fired) m').manager ≡ flat_of m'
      go None = refl
      go (Some line) = refl

  plain-left : (o : Result (Unit {0}) Refusal) (m' : Manager) → ((k : Refusal) → o ≡ Err k → m' ≡ m)
      → (left (flat_of m) (plain_answer o) m').manager ≡ flat_of (left_by m (by_plain o m'))
  unfolding left plain_answer refused_answer no_lines
  plain-left (Err k) m' h = refused-left (eqb (refusal_number k) 0) m m' (h k refl)
  plain-left (Ok tt) m' h = refl

  set-left : (o : Result Bitmap Refusal) (m' : Manager) → ((k : Refusal) → o ≡ Err k → m' ≡ m)
      → (left (flat_of m) (set_answer o) m').manager ≡ flat_of (left_by m (by_set o m'))
  unfolding left set_answer refused_answer one_line
  set-left (Err k) m' h = refused-left (eqb (refusal_number k) 0) m m' (h k refl)
  set-left (Ok set) m' h = refl

  -- a question leaves the record
  set-kept : (o : Result Bitmap Refusal) → flat_of m ≡ flat_of (left_by m (by_set o m))
  set-kept (Err k) = refl
  set-kept (Ok set) = refl

  count_kept : (o : Result ℕ Refusal) → flat_of m ≡ flat_of (left_by m (by_count o m))
  count_kept (Err k) = refl
  count_kept (Ok n) = refl

  time-left-kept : (o : Result (Option ℕ) Refusal) → flat_of m ≡ flat_of (left_by m (by_time_left o m))
  time-left-kept (Err k) = refl
  time-left-kept (Ok x) = refl

  -- what is claimed of a call's result r: it leaves the flat record of what the rule leaves
  abbrev Leaves : CalledC → Call → Type 0
  Leaves r c = r.manager ≡ flat_of (left_by m (verdict m c))

  notice-leaves : (c : CallC) → Leaves (notice_c (flat_of m) c) (notice (record { 0 = c.number }) (lease_notice_of c))
  unfolding notice_c
  notice-leaves c =
      let num : LeaseNum = record { 0 = c.number } in
      let x = lease_notice_of c in
      subst (λ (z : Manager). Leaves (left (flat_of m) (notice_answer (notice_of z num x).outcome) (notice_of z num x).manager) (notice num x)) (sym (there_and_back m))
      (notice-left (notice_of m num x).outcome (notice_of m num x).manager ((refusals-keep m).notices num x))

  advance-leaves : (c : CallC) → Leaves (advance_c (flat_of m) c) (advance (record { 0 = c.number }))
  unfolding advance_c
  advance-leaves c =
      let to : Reading = record { 0 = c.number } in
      subst (λ (z : Manager). Leaves (left (flat_of m) (advance_answer (advance_of z to).outcome) (advance_of z to).manager) (advance to)) (sym (there_and_back m))
      (advance-left (advance_of m to).outcome (advance_of m to).manager ((refusals-keep m).advances to))

  quiet-leaves : Leaves (quiet_c (flat_of m)) quiet-start
  unfolding quiet_c
  quiet-leaves =
      subst (λ (z : Manager). Leaves (left (flat_of m) (plain_answer (quiet_of z).outcome) (quiet_of z).manager) quiet-start) (sym (there_and_back m))
      (plain-left (quiet_of m).outcome (quiet_of m).manager (refusals-keep m).quiet-starts)

  refresh-leaves : (c : CallC) → Leaves (refresh_c (flat_of m) c) (refresh (peer_set_of c))
  unfolding refresh_c
  refresh-leaves c =
      let set = peer_set_of c in
      subst (λ (z : Manager). Leaves (left (flat_of m) (set_answer (refresh_of z set).outcome) (refresh_of z set).manager) (refresh set)) (sym (there_and_back m))
      (set-left (refresh_of m set).outcome (refresh_of m set).manager ((refusals-keep m).refreshes set))

  drift-leaves : (c : CallC) → Leaves (drift_c (flat_of m) c) (drift (drift_setting_of c))
  unfolding drift_c
  drift-leaves c =
      let x = drift_setting_of c in
      subst (λ (z : Manager). Leaves (left (flat_of m) (plain_answer (drift_of z x).outcome) (drift_of z x).manager) (drift x)) (sym (there_and_back m))
      (plain-left (drift_of m x).outcome (drift_of m x).manager ((refusals-keep m).drifts x))

  -- it holds of either if it holds of both
  either : (b : Bool) (x y : CalledC) (p q : Call) → Leaves x p → Leaves y q → Leaves (cond b x y) (cond b p q)
  either true x y p q h k = h
  either false x y p q h k = k

  record-leaves : (c : CallC) → Leaves (record_c (flat_of m) c) (rule_call c)
  unfolding record_c outer_c question_c grant_set_c lease_set_c lease_cnt_c time_left_c kept
  record-leaves c =
      either (eqb c.code 2) _ _ _ _ (advance-leaves c)
      (either (ltb c.code 9) _ _ _ _ (notice-leaves c)
      (either (eqb c.code 9) _ _ _ _ quiet-leaves
      (either (eqb c.code 10) _ _ _ _ (refresh-leaves c)
      (either (eqb c.code 11) _ _ _ _ (drift-leaves c)
      (either (eqb c.code 12) _ _ _ _ (set-kept (grant_set_of m))
      (either (eqb c.code 13) _ _ _ _ (set-kept (lease_set_of m))
      (either (eqb c.code 14) _ _ _ _ (count_kept (lease_cnt_of m)) (time-left-kept (time_left_of m c.peer)))))))))

  -- a card that is a call and no set-up
  pub call-leaves : (c : CallC) → is_call c ≡ true → eqb c.code 1 ≡ false → (call_of (flat_of m) c).manager ≡ flat_of (left_by m (verdict m (rule_call c)))
  unfolding call_of
  call-leaves c h n = rw (h, n, flat-is-record m) (record-leaves c)

  -- ---- the questions' answers

  pub grant-set-answers : (c : CallC) → c.code ≡ 12 → (call_of (flat_of m) c).answer ≡ set_answer (grant_set_of m)
  unfolding call_of is_call record_c outer_c question_c grant_set_c kept
  grant-set-answers c e = rw (e, flat-is-record m, there_and_back m)

  pub lease-set-answers : (c : CallC) → c.code ≡ 13 → (call_of (flat_of m) c).answer ≡ set_answer (lease_set_of m)
  unfolding call_of is_call record_c outer_c question_c lease_set_c kept
  lease-set-answers c e = rw (e, flat-is-record m, there_and_back m)

  pub lease-cnt-answers : (c : CallC) → c.code ≡ 14 → (call_of (flat_of m) c).answer ≡ count_answer (lease_cnt_of m)
  unfolding call_of is_call record_c outer_c question_c lease_cnt_c kept
  lease-cnt-answers c e = rw (e, flat-is-record m, there_and_back m)

-- ---- a card that is no call leaves the record

pub no-call-leaves : (f : ManagerC) (c : CallC) → is_call c ≡ false → (call_of f c).manager ≡ f
unfolding call_of kept
no-call-leaves f c h = rw h

-- ---- set-up

-- what a set-up card gives, by set-up's own rule
setup-called : (f : ManagerC) (c : CallC) → c.code ≡ 1 → call_of f c ≡ setup_c f c
unfolding call_of is_call
setup-called f c e = rw e

-- no refusal has the number 0
pub not_0 : (k : Refusal) → refusal_number k ≡ 0 → ⊥
not_0 R.TimeoutOutOfRange z = omega arith
not_0 R.HeartbeatTooSlow z = omega arith
not_0 R.PopulationOutOfRange z = omega arith
not_0 R.OwnNotBelowPopulation z = omega arith
not_0 R.ReadingTooHigh z = omega arith
not_0 R.ReadingBelowPresent z = omega arith
not_0 R.PeerNotBelowPopulation z = omega arith
not_0 R.PeerIsOwn z = omega arith
not_0 R.SetSizeNotPopulation z = omega arith
not_0 R.SetSizeOutOfRange z = omega arith
not_0 R.InvalidRecord z = omega arith

-- what it answers is set-up's outcome
pub setup-answers : (f : ManagerC) (c : CallC) → c.code ≡ 1 → (call_of f c).answer ≡ plain_answer (set_up_by c).outcome
unfolding setup_c left
setup-answers f c e = ap (λ (r : CalledC). r.answer) (setup-called f c e)

-- an answer that is no refusal is set-up's `Done`
pub setup-done : (f : ManagerC) (c : CallC) → c.code ≡ 1 → (call_of f c).answer.refused ≡ 0 → (set_up_by c).outcome ≡ (Ok tt)
unfolding plain_answer refused_answer
setup-done f c e h = go (set_up_by c).outcome (ap (λ (r : AnswerC). r.refused) (sym (setup-answers f c e)) ∙ h)
  where
    go : (o : Result (Unit {0}) Refusal) → (plain_answer o).refused ≡ 0 → o ≡ (Ok tt)
    go (Ok tt) z = refl
    go (Err k) z = absurd (not_0 k z)

-- and it leaves the flat record of the manager that set-up gives
pub setup-leaves : (f : ManagerC) (c : CallC) → c.code ≡ 1 → (set_up_by c).outcome ≡ (Ok tt) → (call_of f c).manager ≡ flat_of (set_up_by c).manager
unfolding setup_c left plain_answer no_lines
setup-leaves f c e h =
    ap (λ (r : CalledC). r.manager) (setup-called f c e)
    ∙ ap (λ (o : Result (Unit {0}) Refusal). cond (eqb (plain_answer o).refused 0) (flat_of (set_up_by c).manager) f) h

-- a refused one leaves the record that was lent
pub setup-keeps : (f : ManagerC) (c : CallC) → c.code ≡ 1 → (k : Refusal) → (set_up_by c).outcome ≡ (Err k) → (call_of f c).manager ≡ f
unfolding setup_c left plain_answer refused_answer
setup-keeps f c e k h =
    ap (λ (r : CalledC). r.manager) (setup-called f c e)
    ∙ ap (λ (o : Result (Unit {0}) Refusal). cond (eqb (plain_answer o).refused 0) (flat_of (set_up_by c).manager) f) h
    ∙ ap (λ (b : Bool). cond b (flat_of (set_up_by c).manager) f) (ne_eqb (refusal_number k) 0 (not_0 k))

-- ---- a card's arguments are of their types: its drift setting is true or an i8

either-typed : (b : Bool) (p q : Call) → Typed p → Typed q → Typed (cond b p q)
either-typed true p q h k = h
either-typed false p q h k = k

drift-typed : (c : CallC) → Typed (drift (drift_setting_of c))
unfolding drift_setting_of percent_of
drift-typed c = go (eqb c.size 0)
  where
    go : (b : Bool) → Typed (drift (cond b None (Some (percent_of c.first))))
    go true = tt
    go false = fits8 c.first

pub call-typed : (c : CallC) → Typed (rule_call c)
call-typed c =
    either-typed (eqb c.code 2) _ _ tt
    (either-typed (ltb c.code 9) _ _ tt
    (either-typed (eqb c.code 9) _ _ tt
    (either-typed (eqb c.code 10) _ _ tt
    (either-typed (eqb c.code 11) _ _ (drift-typed c)
    (either-typed (eqb c.code 12) _ _ tt (either-typed (eqb c.code 13) _ _ tt (either-typed (eqb c.code 14) _ _ tt tt)))))))
