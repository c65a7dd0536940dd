-- The number that each card answers (rules 10.1 to 10.30, 13.5), in numerals and by tests on the record and the card, not by way of `Refusal`;
-- 0 where the call is accepted. Definitions only.
use Rattle.std.specs.Prelude.{ℕ, cond, eqb, ltb}
use Rattle.lease.specs.declared.Manager.{Manager}
use Rattle.lease.specs.Numbers.{setup_number, notice_number, advance_number, refresh_number, plain_number, time_left_number}
use Rattle.wire.specs.declared.flat.ManagerC.{ManagerC}
use Rattle.wire.specs.FromFlat.{manager_of}
use Rattle.wire.specs.Form.{is_record}
use Rattle.wire.specs.declared.calls.CallC.{CallC}
use Rattle.wire.specs.Cards.{is_call, lease_notice_of, peer_set_of}

-- A card that is a call and no set-up, on a manager's record.
abbrev pub rule_number : Manager → CallC → ℕ
rule_number m c =
    cond (eqb c.code 2) (advance_number m (record { 0 = c.number }))
    (cond (ltb c.code 9) (notice_number m (lease_notice_of c))
    (cond (eqb c.code 9) (plain_number m)
    (cond (eqb c.code 10) (refresh_number m (peer_set_of c))
    (cond (eqb c.code 11) (plain_number m)
    (cond (eqb c.code 12) (plain_number m)
    (cond (eqb c.code 13) (plain_number m) (cond (eqb c.code 14) (plain_number m) (time_left_number m c.peer))))))))

-- Any card: 22, then set-up's, then 15, then the rules'.
abbrev pub card_number : ManagerC → CallC → ℕ
card_number f c =
    cond (is_call c)
    (cond (eqb c.code 1) (setup_number c.peer c.size c.first c.second (record { 0 = c.number }))
    (cond (is_record f) (rule_number (manager_of f) c) 15))
    22
