-- Rule 8.3, the firing order, on one record whose deadlines are 10 to 30 ns: what fires at each of four readings, in order.
use Rattle.std.specs.Prelude.{ℕ, ◌-◌, ◌≡◌, true, false, [], ◌∷◌, replicate, None, Some}
use Rattle.lease.specs.Bitmaps.{capacity}
use Rattle.lease.specs.ClockCases as K
use Rattle.lease.specs.Types.{Timer, Unarmed, Armed, Exploded}
use Rattle.lease.specs.declared.Peer.{Peer}
use Rattle.lease.specs.declared.Manager.{Manager}
use Rattle.lease.specs.declared.FiredTimer.{FiredTimer}
use Rattle.lease.specs.Rows.{empty_row}
use Rattle.lease.specs.Fired.{fired_timer}
use Rattle.lease.specs.Calls.{fired_by}

-- A timer that ends at so many ns.
abbrev armed : ℕ → Timer
armed ns = Armed (record { 0 = ns })

-- A promise sent and a promise held; a guard sent and a guard held.
abbrev promises : Timer → Timer → Peer
promises sent held =
    record { guard_sent = None; promise_sent = Some (sent, false); guard_held = None; promise_held = Some held; refresh_mark = false }

abbrev guards : Timer → Timer → Peer
guards sent held =
    record { guard_sent = Some sent; promise_sent = None; guard_held = Some held; promise_held = None; refresh_mark = false }

-- At the reading 5, with quiet time to 8: the own id is 2; a sent promise of 1 runs longest; all other timers but the exploded ones end
-- at 10 or 20.
abbrev before : Manager
before =
    record {
      me = 2;
      population = 6;
      expire_timeout = 1_000_000_000;
      now = record { 0 = 5 };
      active_num = record { 0 = 1 };
      clock = K.True;
      quiet_timer = Some (record { 0 = 8 });
      peers =
          promises (armed 20) (armed 10) ∷ promises (armed 30) (armed 10) ∷ empty_row ∷ guards Unarmed (armed 20) ∷ promises (armed 10) (armed 20)
          ∷ promises Exploded Exploded ∷ replicate (capacity - 6) empty_row;
    }

-- The timers of an id.
abbrev sent : ℕ → FiredTimer
sent = fired_timer false

abbrev held : ℕ → FiredTimer
held = fired_timer true

-- The readings to advance to, and what fires then. The quiet timer is not in the list.
abbrev pub FiringExamples : Type 0
FiringExamples =
    (fired_by before (record { 0 = 9 }) ≡ [])
    × ((fired_by before (record { 0 = 10 }) ≡ sent 4 ∷ held 0 ∷ held 1 ∷ [])
    × ((fired_by before (record { 0 = 29 }) ≡ sent 4 ∷ held 0 ∷ held 1 ∷ sent 0 ∷ held 3 ∷ held 4 ∷ [])
    × (fired_by before (record { 0 = 30 }) ≡ sent 4 ∷ held 0 ∷ held 1 ∷ sent 0 ∷ held 3 ∷ held 4 ∷ sent 1 ∷ [])))
