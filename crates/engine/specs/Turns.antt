-- What a notice gives before its actions are lines (rules 7.1, 7.2, 7.14). Definitions only.
use Rattle.std.specs.Prelude.{cond, ltb, true, false, Result, Ok, Err}
use Rattle.lease.specs.declared.LeaseNum.{LeaseNum}
use Rattle.lease.specs.declared.LeaseNotice.{LeaseNotice}
use Rattle.lease.specs.declared.Lines.{Lines}
use Rattle.lease.specs.declared.Manager.{Manager}
use Rattle.lease.specs.declared.Refusal.{Refusal}
use Rattle.lease.specs.Notices.{handle_notice, raised_to, outdated, numbered}
use Rattle.engine.specs.declared.notices.Turn.{Turn}

-- Under a lower number the answer to an outdated notice; else the actions of the notice, on the record raised to a higher number.
abbrev pub turn_of : Manager → LeaseNum → LeaseNotice → Turn
turn_of m num notice =
    cond (ltb num.0 m.active_num.0) (record { higher = false; actions = outdated notice })
    (cond (ltb m.active_num.0 num.0) (record { higher = true; actions = (handle_notice (raised_to m num) notice).actions }) (record { higher = false; actions = (handle_notice m notice).actions }))

-- Its lines.
abbrev pub turn_lines : LeaseNum → Turn → Lines
turn_lines num turn = numbered num turn.higher turn.actions

abbrev pub turn_outcome : LeaseNum → Turn → Result (Unit {0}) Refusal → Result Lines Refusal
turn_outcome num turn (Ok tt) = Ok (turn_lines num turn)
turn_outcome num turn (Err k) = Err k
