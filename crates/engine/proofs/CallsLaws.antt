-- What a record that the check passes gives: its ids have rows, and to a refresh, that no sent
-- promise's deadline is far off. Assumes nothing.
use Rattle.std.specs.Prelude.{Option, None, Some}
use Prim.Native.Nat.{ℕ, ◌+◌, ◌≤◌}
use mathlib.Core.Path.{◌≡◌}
use mathlib.Core.Bool.{Bool, true, false, cond, not, ◌&&◌}
use native.Mathlib.Omega.{arith}
use lib.Dec.{eqb, leb, ltb}
use borrow.Author.Tests.{leb-true}
use Rattle.lease.specs.Bitmaps.{capacity}
use Rattle.lease.specs.Types.{Reading, Timer, Unarmed, Armed, Exploded}
use Rattle.lease.specs.Timers.{farthest, Near}
use Rattle.lease.specs.declared.Peer.{Peer}
use Rattle.lease.specs.declared.Manager.{Manager}
use Rattle.lease.specs.Rows.{present, granted}
use Rattle.lease.specs.RecordCheck.{timer_valid, sent_guard_valid, entry_valid, grant_valid, timers_valid, sides_valid, row_valid, entries_empty, row_empty, row_valid_at, record_valid}
use Rattle.lease.proofs.Tests.{both, fst-of, snd-of}
use Rattle.lease.proofs.RecordCheck.{rows_of, row-of}
use Rattle.peer_rows.specs.Fits.{NearGrant}
use Rattle.refusals.proofs.Laws.{fits}
use Rattle.engine.specs.Fits.{NearRows}

near-timer : (now : Reading) (t : Timer) → timer_valid now t ≡ true → Near now t
near-timer now Unarmed e = tt
near-timer now (Armed d) e = leb-true d.0 (now.0 + farthest) (both (ltb now.0 d.0) (leb d.0 (now.0 + farthest)) e).1
near-timer now Exploded e = tt

near-grant : (now : Reading) (g : Option (Timer × Bool)) → grant_valid now g ≡ true → NearGrant now g
near-grant now None e = tt
near-grant now (Some (t, r)) e = near-timer now t e

near_none : (now : Reading) (g : Option (Timer × Bool)) → not (granted g) ≡ true → NearGrant now g
near_none now None e = tt
near_none now (Some (t, r)) e = absurd (let z : ◌≡◌ {A = ℕ} 0 1 = cc in omega arith)

near-empty : (now : Reading) (row : Peer) → row_empty row ≡ true → NearGrant now row.promise_sent
unfolding row_empty
near-empty now row e = go row.refresh_mark e
  where
    go : (mark : Bool) → cond mark false (entries_empty row) ≡ true → NearGrant now row.promise_sent
    go true e = absurd (let z : ◌≡◌ {A = ℕ} 0 1 = cc in omega arith)
    go false e =
        near_none now row.promise_sent
        (snd-of (not (present row.guard_sent)) (not (granted row.promise_sent))
        (fst-of (not (present row.guard_sent) && not (granted row.promise_sent)) (not (present row.guard_held) && not (present row.promise_held)) e))

near-row : (now : Reading) (row : Peer) → row_valid now row ≡ true → NearGrant now row.promise_sent
unfolding row_valid
near-row now row e =
    near-grant now row.promise_sent
    (snd-of (sent_guard_valid row.guard_sent) (grant_valid now row.promise_sent)
    (fst-of (sent_guard_valid row.guard_sent && grant_valid now row.promise_sent) (entry_valid now row.guard_held && entry_valid now row.promise_held)
    (fst-of (timers_valid now row) (sides_valid row) e)))

near-at : (own n i : ℕ) (now : Reading) (row : Peer) → row_valid_at own n now i row ≡ true → NearGrant now row.promise_sent
unfolding row_valid_at
near-at own n i now row e = go (ltb i n) (eqb i own) e
  where
    go : (x y : Bool) → cond x (cond y (row_empty row) (row_valid now row)) (row_empty row) ≡ true → NearGrant now row.promise_sent
    go true true e = near-empty now row e
    go true false e = near-row now row e
    go false y e = near-empty now row e

pub near : (m : Manager) → record_valid m ≡ true → NearRows m
unfolding NearRows
near m e i h =
    let few = (fits m e).few in
    near-at m.me m.population i m.now _ (row-of m.me m.population m.now m.peers capacity i (rows_of m e) (omega arith))

pub few : (m : Manager) → record_valid m ≡ true → m.population ≤ capacity
few m e = (fits m e).few
