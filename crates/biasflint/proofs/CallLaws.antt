-- A refused call leaves the record, since every call leaves it by `left` or by `kept`; and the two refusals of the host library itself. Assumes
-- nothing.
use Rattle.std.specs.Prelude.{Option, None, Some, Result, Ok, Err, IfOk, IfErr}
use mathlib.Core.Path.{◌≡◌, refl, sym, ap, ◌∙◌}
use mathlib.Core.Bool.{Bool, true, false, cond, ◌&&◌}
use borrow.Author.Tests.{ne_eqb}
use lib.Dec.{eqb, ltb}
use Rattle.lease.specs.declared.Manager.{Manager}
use Rattle.wire.specs.declared.flat.ManagerC.{ManagerC}
use Rattle.lease.specs.declared.Refusal.{Refusal}
use Rattle.lease.specs.declared.Line.{Line}
use Rattle.lease.specs.declared.Lines.{Lines}
use Rattle.lease.specs.declared.Lines.TheVariants as L
use Rattle.lease.specs.declared.Advanced.{Advanced}
use Rattle.lease.specs.Types.{Bitmap}
use Rattle.lease.specs.RecordCheck.{record_valid}
use Rattle.lease.specs.Refusals.{refusal_number}
use Rattle.lease.specs.Rules.{notice_of, advance_of, quiet_of, refresh_of, drift_of, grant_set_of, lease_set_of, lease_cnt_of, time_left_of}
use Rattle.wire.specs.Flat.{flat_of}
use Rattle.wire.specs.FromFlat.{manager_of}
use Rattle.wire.specs.Form.{is_record}
use Rattle.wire.specs.declared.answers.AnswerC.{AnswerC}
use Rattle.wire.specs.Answers.{refused_answer, no_lines, one_line, two_lines, lines_answer, notice_answer, fired_answer, advance_lines, with_fired, advance_answer, plain_answer, set_answer, count_answer, time_left_answer}
use Rattle.wire.specs.declared.calls.CallC.{CallC}
use Rattle.wire.specs.Cards.{is_call}
use Rattle.biasflint.specs.declared.rules.CalledC.{CalledC}
use Rattle.biasflint.specs.Calls.{left, kept, setup_c, notice_c, advance_c, quiet_c, refresh_c, drift_c, grant_set_c, lease_set_c, lease_cnt_c, time_left_c, question_c, outer_c, record_c, call_of}
use Rattle.biasflint.specs.Claims.{RefusedKeeps}
use Rattle.biasflint.proofs.OneCall.{not_0}

-- what is claimed of one answer
abbrev Keeps : ManagerC → CalledC → Type 0
Keeps f r = eqb r.answer.refused 0 ≡ false → r.manager ≡ f

left-keeps : (f : ManagerC) (answer : AnswerC) (m : Manager) → Keeps f (left f answer m)
unfolding left
left-keeps f answer m h = rw h refl

kept-keeps : (f : ManagerC) (answer : AnswerC) → Keeps f (kept f answer)
unfolding kept
kept-keeps f answer h = refl

-- it holds of either if it holds of both
either : (f : ManagerC) (b : Bool) (x y : CalledC) → Keeps f x → Keeps f y → Keeps f (cond b x y)
either f true x y p q = p
either f false x y p q = q

question-keeps : (f : ManagerC) (c : CallC) → Keeps f (question_c f c)
unfolding question_c grant_set_c lease_set_c lease_cnt_c time_left_c
question-keeps f c =
    either f (eqb c.code 12) _ _ (kept-keeps f _) (either f (eqb c.code 13) _ _ (kept-keeps f _) (either f (eqb c.code 14) _ _ (kept-keeps f _) (kept-keeps f _)))

outer-keeps : (f : ManagerC) (c : CallC) → Keeps f (outer_c f c)
unfolding outer_c quiet_c refresh_c drift_c
outer-keeps f c =
    either f (eqb c.code 9) _ _ (left-keeps f _ _) (either f (eqb c.code 10) _ _ (left-keeps f _ _) (either f (eqb c.code 11) _ _ (left-keeps f _ _) (question-keeps f c)))

record-keeps : (f : ManagerC) (c : CallC) → Keeps f (record_c f c)
unfolding record_c advance_c notice_c
record-keeps f c = either f (eqb c.code 2) _ _ (left-keeps f _ _) (either f (ltb c.code 9) _ _ (left-keeps f _ _) (outer-keeps f c))

pub refused-keeps : RefusedKeeps
unfolding call_of setup_c
refused-keeps f c =
    either f (is_call c) _ _ (either f (eqb c.code 1) _ _ (left-keeps f _ _) (either f (is_record f) _ _ (record-keeps f c) (kept-keeps f _))) (kept-keeps f _)

-- ---- the two refusals of the host library itself

pub no-call : (f : ManagerC) (c : CallC) → is_call c ≡ false → (call_of f c).answer.refused ≡ 22
unfolding call_of kept refused_answer
no-call f c h = rw h refl

pub no-record : (f : ManagerC) (c : CallC) → is_call c ≡ true → eqb c.code 1 ≡ false → is_record f ≡ false → (call_of f c).answer.refused ≡ 15
unfolding call_of kept refused_answer
no-record f c h n k = rw (h, n, k) refl

-- ---- what a call in place leaves

-- a question leaves the record
pub question_stays : (f : ManagerC) (c : CallC) → f ≡ (question_c f c).manager
unfolding question_c grant_set_c lease_set_c lease_cnt_c time_left_c kept
question_stays f c = go (eqb c.code 12) (eqb c.code 13) (eqb c.code 14)
  where
    go : (a b d : Bool) → f ≡ (cond a (grant_set_c f) (cond b (lease_set_c f) (cond d (lease_cnt_c f) (time_left_c f c)))).manager
    go true b d = refl
    go false true d = refl
    go false false true = refl
    go false false false = refl

-- a record m' that a call leaves is written, also where the call is refused: it is then the one that was lent
either-left : (b : Bool) (f : ManagerC) (m' : Manager) → flat_of m' ≡ f → flat_of m' ≡ cond b (flat_of m') f
either-left true f m' e = refl
either-left false f m' e = e

module _ (f : ManagerC) (same : flat_of (manager_of f) ≡ f) (m' : Manager) where
  pub notice_left : (o : Result Lines Refusal) → ((k : Refusal) → o ≡ Err k → m' ≡ manager_of f) → flat_of m' ≡ (left f (notice_answer o) m').manager
  unfolding left notice_answer refused_answer lines_answer no_lines one_line two_lines
  notice_left (Err k) h = either-left (eqb (refusal_number k) 0) f m' (ap flat_of (h k refl) ∙ same)
  notice_left (Ok L.None) h = refl
  notice_left (Ok (L.One a)) h = refl
  notice_left (Ok (L.Two a b)) h = refl
  notice_left (Ok (L.Three a b c)) h = refl

  pub advance_left : (o : Result Advanced Refusal) → ((k : Refusal) → o ≡ Err k → m' ≡ manager_of f) → flat_of m' ≡ (left f (advance_answer o) m').manager
  unfolding left advance_answer advance_lines refused_answer fired_answer one_line two_lines
  advance_left (Err k) h = either-left (eqb (refusal_number k) 0) f m' (ap flat_of (h k refl) ∙ same)
  advance_left (Ok a) h = go a.quiet_end
    where
      go : (end : Option Line) → flat_of m' ≡ (left f (with_fired (fired_answer a.sent a.held end) a.fired) m').manager
      go None = refl
      go (Some line) = refl

  pub plain_left : (o : Result (Unit {0}) Refusal) → ((k : Refusal) → o ≡ Err k → m' ≡ manager_of f) → flat_of m' ≡ (left f (plain_answer o) m').manager
  unfolding left plain_answer refused_answer no_lines
  plain_left (Err k) h = either-left (eqb (refusal_number k) 0) f m' (ap flat_of (h k refl) ∙ same)
  plain_left (Ok done) h = refl

  pub set_left : (o : Result Bitmap Refusal) → ((k : Refusal) → o ≡ Err k → m' ≡ manager_of f) → flat_of m' ≡ (left f (set_answer o) m').manager
  unfolding left set_answer refused_answer one_line
  set_left (Err k) h = either-left (eqb (refusal_number k) 0) f m' (ap flat_of (h k refl) ∙ same)
  set_left (Ok set) h = refl

-- ---- a record of the form that the record check does not pass: every call but set-up is refused with 15

module _ (f : ManagerC) (bad : record_valid (manager_of f) ≡ false) where
  abbrev Refused15 : CalledC → Type 0
  Refused15 r = r ≡ kept f (refused_answer 15)

  either-15 : (b : Bool) (x y : CalledC) → Refused15 x → Refused15 y → Refused15 (cond b x y)
  either-15 true x y p q = p
  either-15 false x y p q = q

  pub invalid : (c : CallC) → Refused15 (record_c f c)
  unfolding record_c outer_c question_c notice_c advance_c quiet_c refresh_c drift_c grant_set_c lease_set_c lease_cnt_c time_left_c left kept notice_of advance_of quiet_of refresh_of drift_of grant_set_of lease_set_of lease_cnt_of time_left_of notice_answer advance_answer advance_lines plain_answer set_answer count_answer time_left_answer refused_answer
  invalid c =
      either-15 (eqb c.code 2) _ _ (rw bad refl)
      (either-15 (ltb c.code 9) _ _ (rw bad refl)
      (either-15 (eqb c.code 9) _ _ (rw bad refl)
      (either-15 (eqb c.code 10) _ _ (rw bad refl)
      (either-15 (eqb c.code 11) _ _ (rw bad refl)
      (either-15 (eqb c.code 12) _ _ (rw bad refl)
      (either-15 (eqb c.code 13) _ _ (rw bad refl)
      (either-15 (eqb c.code 14) _ _ (rw bad refl) (rw bad refl))))))))

-- ---- what is refused by the host library itself

pub no-call-is : (f : ManagerC) (c : CallC) → is_call c ≡ false → call_of f c ≡ kept f (refused_answer 22)
unfolding call_of
no-call-is f c h = rw h refl

pub no-record-is : (f : ManagerC) (c : CallC) → is_call c ≡ true → eqb c.code 1 ≡ false → (is_record f && record_valid (manager_of f)) ≡ false → call_of f c ≡ kept f (refused_answer 15)
unfolding call_of
no-record-is f c h n e = rw (h, n) (go (is_record f) e)
  where
    go : (b : Bool) → (b && record_valid (manager_of f)) ≡ false → cond b (record_c f c) (kept f (refused_answer 15)) ≡ kept f (refused_answer 15)
    go true v = invalid f v c
    go false v = refl

-- ---- set-up in place

pub setup_left : (f g : ManagerC) (m' : Manager) (o : Result (Unit {0}) Refusal) → IfOk o (λ done. g ≡ flat_of m') → IfErr o (λ k. g ≡ f) → g ≡ (left f (plain_answer o) m').manager
unfolding left plain_answer refused_answer no_lines
setup_left f g m' (Ok done) a b = a
setup_left f g m' (Err k) a b = b ∙ ap (λ (t : Bool). cond t (flat_of m') f) (sym (ne_eqb (refusal_number k) 0 (not_0 k)))
