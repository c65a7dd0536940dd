-- The records that calls from an accepted set-up lead to (rule 5.4). Definitions only.
use Rattle.std.specs.Prelude.{◌≡◌, ℕ, List, [], ◌∷◌, None, Some, Ok}
use Rattle.std.specs.Int.{w8}
use Rattle.std.proofs.Common.{SFits}
use Rattle.lease.specs.Types.{Reading}
use Rattle.lease.specs.declared.Manager.{Manager}
use Rattle.lease.specs.SetUp.{setup_of}
use Rattle.lease.specs.Verdicts.{Call, notice, advance, quiet-start, refresh, drift, grant-set, lease-set, lease-cnt, time-left, Verdict, refused, done, verdict}

-- The one premise on a call's arguments: a drift setting is true or an i8 (rule 3.3), as its type in the program says.
abbrev pub Typed : Call → Type 0
Typed (notice num x) = Unit {0}
Typed (advance to) = Unit {0}
Typed quiet-start = Unit {0}
Typed (refresh set) = Unit {0}
Typed (drift None) = Unit {0}
Typed (drift (Some d)) = SFits w8 d
Typed grant-set = Unit {0}
Typed lease-set = Unit {0}
Typed lease-cnt = Unit {0}
Typed (time-left id) = Unit {0}

abbrev pub AllTyped : List Call → Type 0
AllTyped [] = Unit {0}
AllTyped (c ∷ l) = Typed c × AllTyped l

-- The record that a call leaves: after a refusal (rule 10.31), the one that went in.
abbrev pub left_by : Manager → Verdict → Manager
left_by m (refused k) = m
left_by m (done l m') = m'

-- The record that a list of calls leads to.
abbrev pub led_to : Manager → List Call → Manager
led_to m [] = m
led_to m (c ∷ cs) = led_to (left_by m (verdict m c)) cs

-- A record that set-up's calls lead to: an accepted set-up's, and one that a call leaves of such a record.
pub data Reachable : Manager → Type 0 where
  set-up : (me n t heartbeat : ℕ) (now : Reading) → (setup_of me n t heartbeat now).outcome ≡ (Ok tt) → Reachable (setup_of me n t heartbeat now).manager
  called : (m : Manager) → Reachable m → (c : Call) → Typed c → Reachable (left_by m (verdict m c))
