-- The lines of a turn are those of the accepted notice. Assumes nothing.
use mathlib.Core.Path.{◌≡◌, refl}
use mathlib.Core.Bool.{Bool, true, false, cond}
use lib.Dec.{ltb}
use Rattle.lease.specs.declared.Accepted.{Accepted}
use Rattle.lease.specs.declared.LeaseNum.{LeaseNum}
use Rattle.lease.specs.declared.LeaseNotice.{LeaseNotice}
use Rattle.lease.specs.declared.Manager.{Manager}
use Rattle.lease.specs.Notices.{handle_notice, raised_to, outdated, numbered, acted_under, accepted_of}
use Rattle.engine.specs.declared.notices.Turn.{Turn}
use Rattle.engine.specs.Turns.{turn_of, turn_lines}

pub lines_of_turn : (m : Manager) (num : LeaseNum) (x : LeaseNotice) → turn_lines num (turn_of m num x) ≡ (accepted_of m num x).lines
unfolding accepted_of
lines_of_turn m num x = go (ltb num.0 m.active_num.0) (ltb m.active_num.0 num.0)
  where
    go :
        (lower higher : Bool) →
        turn_lines num
        (cond {A = Turn} lower (record { higher = false; actions = outdated x })
        (cond {A = Turn} higher (record { higher = true; actions = (handle_notice (raised_to m num) x).actions }) (record { higher = false; actions = (handle_notice m x).actions })))
        ≡ (cond {A = Accepted} lower (record { lines = numbered num false (outdated x); manager = m })
        (cond {A = Accepted} higher (acted_under num true (handle_notice (raised_to m num) x)) (acted_under num false (handle_notice m x)))).lines
    go true higher = refl
    go false true = refl
    go false false = refl
