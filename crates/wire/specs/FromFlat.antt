-- The manager's record that a flat record stands for (rule 13.1). A number that stands for nothing is read as the last case: Form refuses it.
-- Definitions only.
use Rattle.std.specs.Prelude.{ℕ, Bool, cond, map, eqb, Float, Option, None, Some}
use Rattle.lease.specs.Types.{Reading, Clock, True, Drifting, Timer, Unarmed, Armed, Exploded}
use Rattle.lease.specs.declared.Peer.{Peer}
use Rattle.lease.specs.declared.Manager.{Manager}
use Rattle.wire.specs.declared.flat.PeerC.{PeerC}
use Rattle.wire.specs.declared.flat.ManagerC.{ManagerC}

-- A timer by its tag, 1 unarmed, 2 armed, 3 exploded, and the deadline.
abbrev pub timer_by_tag : ℕ → ℕ → Timer
timer_by_tag tag at = cond (eqb tag 1) Unarmed (cond (eqb tag 2) (Armed (record { 0 = at })) Exploded)

abbrev pub entry_by_tag : ℕ → ℕ → Option Timer
entry_by_tag tag at = cond (eqb tag 0) None (Some (timer_by_tag tag at))

abbrev pub grant_by_tag : ℕ → ℕ → ℕ → Option (Timer × Bool)
grant_by_tag tag at revoking = cond (eqb tag 0) None (Some (timer_by_tag tag at, eqb revoking 1))

unfoldable pub peer_of : PeerC → Peer
peer_of p =
    record {
      guard_sent = entry_by_tag p.guard_sent p.guard_sent_at;
      promise_sent = grant_by_tag p.promise_sent p.promise_sent_at p.revoking;
      guard_held = entry_by_tag p.guard_held p.guard_held_at;
      promise_held = entry_by_tag p.promise_held p.promise_held_at;
      refresh_mark = eqb p.refresh_mark 1;
    }

abbrev pub clock_by_flag : ℕ → Float → Clock
clock_by_flag drifting q = cond (eqb drifting 0) True (Drifting q)

abbrev pub quiet_timer_by_flag : ℕ → ℕ → Option Reading
quiet_timer_by_flag quiet at = cond (eqb quiet 0) None (Some (record { 0 = at }))

unfoldable pub manager_of : ManagerC → Manager
manager_of f =
    record {
      me = f.me;
      population = f.population;
      expire_timeout = f.expire_timeout;
      now = record { 0 = f.now };
      active_num = record { 0 = f.active_num };
      clock = clock_by_flag f.drifting f.quotient;
      quiet_timer = quiet_timer_by_flag f.quiet f.quiet_until;
      peers = map peer_of f.peers;
    }
