-- What a call from the host gives, by the rules of `lease` on the manager that the flat record stands for (rules 13.2, 13.5). Definitions only.
use Rattle.std.specs.Prelude.{cond, eqb, ltb}
use Rattle.lease.specs.declared.Manager.{Manager}
use Rattle.lease.specs.SetUp.{setup_of}
use Rattle.lease.specs.Rules.{notice_of, advance_of, quiet_of, refresh_of, drift_of, grant_set_of, lease_set_of, lease_cnt_of, time_left_of}
use Rattle.wire.specs.declared.flat.ManagerC.{ManagerC}
use Rattle.wire.specs.Flat.{flat_of}
use Rattle.wire.specs.FromFlat.{manager_of}
use Rattle.wire.specs.Form.{is_record}
use Rattle.wire.specs.declared.answers.AnswerC.{AnswerC}
use Rattle.wire.specs.Answers.{refused_answer, notice_answer, advance_answer, plain_answer, set_answer, count_answer, time_left_answer}
use Rattle.wire.specs.declared.calls.CallC.{CallC}
use Rattle.wire.specs.Cards.{is_call, lease_notice_of, peer_set_of, drift_setting_of}
use Rattle.biasflint.specs.declared.rules.CalledC.{CalledC}

-- What a call that may change the record leaves: the manager's next record, and on a refusal the record that was lent.
unfoldable pub left : ManagerC → AnswerC → Manager → CalledC
left f answer m = record { answer = answer; manager = cond (eqb answer.refused 0) (flat_of m) f }

-- What any other leaves: the record that was lent.
unfoldable pub kept : ManagerC → AnswerC → CalledC
kept f answer = record { answer = answer; manager = f }

-- ---- each call, on the record f and the card c

unfoldable pub setup_c : ManagerC → CallC → CalledC
setup_c f c =
    let r = setup_of c.peer c.size c.first c.second (record { 0 = c.number }) in
    left f (plain_answer r.outcome) r.manager

unfoldable pub notice_c : ManagerC → CallC → CalledC
notice_c f c =
    let r = notice_of (manager_of f) (record { 0 = c.number }) (lease_notice_of c) in
    left f (notice_answer r.outcome) r.manager

unfoldable pub advance_c : ManagerC → CallC → CalledC
advance_c f c =
    let r = advance_of (manager_of f) (record { 0 = c.number }) in
    left f (advance_answer r.outcome) r.manager

unfoldable pub quiet_c : ManagerC → CalledC
quiet_c f =
    let r = quiet_of (manager_of f) in
    left f (plain_answer r.outcome) r.manager

unfoldable pub refresh_c : ManagerC → CallC → CalledC
refresh_c f c =
    let r = refresh_of (manager_of f) (peer_set_of c) in
    left f (set_answer r.outcome) r.manager

unfoldable pub drift_c : ManagerC → CallC → CalledC
drift_c f c =
    let r = drift_of (manager_of f) (drift_setting_of c) in
    left f (plain_answer r.outcome) r.manager

unfoldable pub grant_set_c : ManagerC → CalledC
grant_set_c f = kept f (set_answer (grant_set_of (manager_of f)))

unfoldable pub lease_set_c : ManagerC → CalledC
lease_set_c f = kept f (set_answer (lease_set_of (manager_of f)))

unfoldable pub lease_cnt_c : ManagerC → CalledC
lease_cnt_c f = kept f (count_answer (lease_cnt_of (manager_of f)))

unfoldable pub time_left_c : ManagerC → CallC → CalledC
time_left_c f c = kept f (time_left_answer (time_left_of (manager_of f) c.peer))

-- ---- any call, by its code

-- Codes 12 to 15.
unfoldable pub question_c : ManagerC → CallC → CalledC
question_c f c = cond (eqb c.code 12) (grant_set_c f) (cond (eqb c.code 13) (lease_set_c f) (cond (eqb c.code 14) (lease_cnt_c f) (time_left_c f c)))

-- Codes 9 to 11 and the questions'.
unfoldable pub outer_c : ManagerC → CallC → CalledC
outer_c f c = cond (eqb c.code 9) (quiet_c f) (cond (eqb c.code 10) (refresh_c f c) (cond (eqb c.code 11) (drift_c f c) (question_c f c)))

-- Code 2, the notices' codes 3 to 8, and the rest.
unfoldable pub record_c : ManagerC → CallC → CalledC
record_c f c = cond (eqb c.code 2) (advance_c f c) (cond (ltb c.code 9) (notice_c f c) (outer_c f c))

-- What is no call is refused with 22 before the record is looked at; then what is no manager's record with 15, but by set-up, which does
-- not look at the record that is lent.
unfoldable pub call_of : ManagerC → CallC → CalledC
call_of f c =
    cond (is_call c)
    (cond (eqb c.code 1) (setup_c f c) (cond (is_record f) (record_c f c) (kept f (refused_answer 15))))
    (kept f (refused_answer 22))
