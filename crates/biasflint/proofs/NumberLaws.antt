-- The number that a call answers is that of specs/Numbers. Assumes nothing.
use Rattle.std.specs.Prelude.{Option, None, Some, Result, Ok, Err}
use Prim.Native.Nat.{ℕ}
use mathlib.Core.Path.{◌≡◌, refl, ◌∙◌}
use mathlib.Core.Bool.{Bool, true, false, cond}
use lib.Dec.{eqb, ltb}
use Rattle.lease.specs.Types.{Bitmap}
use Rattle.lease.specs.declared.Lines.{Lines}
use Rattle.lease.specs.declared.Lines.TheVariants as L
use Rattle.lease.specs.declared.Line.{Line}
use Rattle.lease.specs.declared.Advanced.{Advanced}
use Rattle.lease.specs.declared.Refusal.{Refusal}
use Rattle.lease.specs.SetUp.{setup_of}
use Rattle.lease.specs.Rules.{notice_of, advance_of, quiet_of, refresh_of, drift_of, grant_set_of, lease_set_of, lease_cnt_of, time_left_of}
use Rattle.lease.specs.Numbers.{number_of}
use Rattle.lease.proofs.NumbersLemmas.{setup_numbered, notice_numbered, advance_numbered, quiet_numbered, refresh_numbered, drift_numbered, grant_set_numbered, lease_set_numbered, lease_cnt_numbered, time_left_numbered}
use Rattle.wire.specs.declared.flat.ManagerC.{ManagerC}
use Rattle.wire.specs.FromFlat.{manager_of}
use Rattle.wire.specs.Form.{is_record}
use Rattle.wire.specs.Answers.{refused_answer, no_lines, one_line, two_lines, lines_answer, notice_answer, fired_answer, advance_lines, advance_answer, plain_answer, set_answer, count_answer, time_left_answer}
use Rattle.wire.specs.declared.calls.CallC.{CallC}
use Rattle.wire.specs.Cards.{is_call, lease_notice_of, peer_set_of, drift_setting_of}
use Rattle.biasflint.specs.declared.rules.CalledC.{CalledC}
use Rattle.biasflint.specs.Calls.{left, kept, setup_c, notice_c, advance_c, quiet_c, refresh_c, drift_c, grant_set_c, lease_set_c, lease_cnt_c, time_left_c, question_c, outer_c, record_c, call_of}
use Rattle.biasflint.specs.Numbers.{rule_number, card_number}

-- ---- an answer's number is its outcome's

notice-number : (o : Result Lines Refusal) → (notice_answer o).refused ≡ number_of o
unfolding notice_answer refused_answer lines_answer no_lines one_line two_lines
notice-number (Err k) = refl
notice-number (Ok L.None) = refl
notice-number (Ok (L.One a)) = refl
notice-number (Ok (L.Two a b)) = refl
notice-number (Ok (L.Three a b c)) = refl

fired-number : (sent held : Bitmap) (end : Option Line) → (fired_answer sent held end).refused ≡ 0
unfolding fired_answer one_line two_lines
fired-number sent held None = refl
fired-number sent held (Some line) = refl

advance-number : (o : Result Advanced Refusal) → (advance_answer o).refused ≡ number_of o
unfolding advance_answer advance_lines refused_answer
advance-number (Err k) = refl
advance-number (Ok a) = fired-number a.sent a.held a.quiet_end

plain-number : (o : Result (Unit {0}) Refusal) → (plain_answer o).refused ≡ number_of o
unfolding plain_answer refused_answer no_lines
plain-number (Err k) = refl
plain-number (Ok done) = refl

set-number : (o : Result Bitmap Refusal) → (set_answer o).refused ≡ number_of o
unfolding set_answer refused_answer one_line
set-number (Err k) = refl
set-number (Ok set) = refl

count-number : (o : Result ℕ Refusal) → (count_answer o).refused ≡ number_of o
unfolding count_answer refused_answer one_line
count-number (Err k) = refl
count-number (Ok n) = refl

time-left-number : (o : Result (Option ℕ) Refusal) → (time_left_answer o).refused ≡ number_of o
unfolding time_left_answer refused_answer one_line
time-left-number (Err k) = refl
time-left-number (Ok left) = refl

-- ---- a call's

either-number : (b : Bool) (x y : CalledC) (n k : ℕ) → x.answer.refused ≡ n → y.answer.refused ≡ k → (cond b x y).answer.refused ≡ cond b n k
either-number true x y n k p q = p
either-number false x y n k p q = q

record-number : (f : ManagerC) (c : CallC) → (record_c f c).answer.refused ≡ rule_number (manager_of f) c
unfolding record_c outer_c question_c notice_c advance_c quiet_c refresh_c drift_c grant_set_c lease_set_c lease_cnt_c time_left_c left kept
record-number f c =
    let m = manager_of f in
    either-number (eqb c.code 2) _ _ _ _ (advance-number (advance_of m (record { 0 = c.number })).outcome ∙ advance_numbered m (record { 0 = c.number }))
    (either-number (ltb c.code 9) _ _ _ _ (notice-number (notice_of m (record { 0 = c.number }) (lease_notice_of c)).outcome ∙ notice_numbered m (record { 0 = c.number }) (lease_notice_of c))
    (either-number (eqb c.code 9) _ _ _ _ (plain-number (quiet_of m).outcome ∙ quiet_numbered m)
    (either-number (eqb c.code 10) _ _ _ _ (set-number (refresh_of m (peer_set_of c)).outcome ∙ refresh_numbered m (peer_set_of c))
    (either-number (eqb c.code 11) _ _ _ _ (plain-number (drift_of m (drift_setting_of c)).outcome ∙ drift_numbered m (drift_setting_of c))
    (either-number (eqb c.code 12) _ _ _ _ (set-number (grant_set_of m) ∙ grant_set_numbered m)
    (either-number (eqb c.code 13) _ _ _ _ (set-number (lease_set_of m) ∙ lease_set_numbered m)
    (either-number (eqb c.code 14) _ _ _ _ (count-number (lease_cnt_of m) ∙ lease_cnt_numbered m)
    (time-left-number (time_left_of m c.peer) ∙ time_left_numbered m c.peer))))))))

pub card-number : (f : ManagerC) (c : CallC) → (call_of f c).answer.refused ≡ card_number f c
unfolding call_of setup_c left kept refused_answer
card-number f c =
    either-number (is_call c) _ _ _ _
    (either-number (eqb c.code 1) _ _ _ _ (plain-number (setup_of c.peer c.size c.first c.second (record { 0 = c.number })).outcome ∙ setup_numbered c.peer c.size c.first c.second (record { 0 = c.number }))
    (either-number (is_record f) _ _ _ _ (record-number f c) refl))
    refl
