-- Where none of a record's timers is due before b: so it stays in notices and in advances to readings below b. Assumes nothing.
use Rattle.std.specs.Prelude.{Option, None, Some, Ok, min}
use Prim.Native.Nat.{ℕ, ◌<◌, ◌≤◌}
use mathlib.Core.Path.{◌≡◌, refl, ap}
use mathlib.Core.Bool.{Bool, true, false, cond, not, ◌&&◌}
use native.Mathlib.Omega.{arith}
use lib.Dec.{eqb, ltb}
use lib.Seq.{get_or-set_other}
use Rattle.lease.specs.Bitmaps.{capacity, bitmap_of}
use Rattle.lease.specs.Types.{Reading, Timer, Unarmed, Armed, Exploded}
use Rattle.lease.specs.declared.Peer.{Peer}
use Rattle.lease.specs.declared.Accepted.{Accepted}
use Rattle.lease.specs.declared.LeaseNum.{LeaseNum}
use Rattle.lease.specs.declared.LeaseNotice.{LeaseNotice}
use Rattle.lease.specs.declared.LeaseNotice.TheVariants as N
use Rattle.lease.specs.declared.PeerNotice.{PeerNotice}
use Rattle.lease.specs.declared.PeerNotice.TheVariants as PN
use Rattle.lease.specs.declared.Manager.{Manager}
use Rattle.lease.specs.Pass as P
use Rattle.lease.specs.Rows.{present, granted, row_at, empty_row}
use Rattle.lease.specs.RecordCheck.{sent_guard_valid, entry_valid, grant_valid, timers_valid, sides_valid, row_valid, entries_empty, row_empty, row_valid_at, record_valid}
use Rattle.lease.proofs.Tests.{fst-of}
use Rattle.lease.proofs.RecordCheck.{rows_of, row-of}
use Rattle.peer_rows.specs.Due.{NotArmed, GuardsUnarmed}
use Rattle.lease.specs.Refusals.{notice_refusal}
use Rattle.lease.specs.Calls.{advance_to, fired_by, quiet_end, quiet_fires}
use Rattle.lease.specs.Notices.{handled_at, pass_on, on_peer, handle_new_grants, handle_do_revoke, handle_clear_held, handle_notice, raised_to, numbered, outdated, acted_under, accepted_of}
use Rattle.peer_rows.specs.Due.{row_due, rows_due}
use Rattle.peer_rows.specs.declared.pass.Marks.{Marks}
use Rattle.peer_rows.specs.Marks.{marks_of, either}
use Rattle.peer_rows.proofs.Sides.{neither}
use Rattle.peer_rows.proofs.NotBefore.{rows_from, rows_lower, rows_passed, rows_changed, none_marked, rows_stay}
use Rattle.engine.specs.Due.{NotBefore, due_noticed, nothing_fired}
use Rattle.engine.specs.Fits.{PeerBelow}
use Rattle.engine.proofs.Laws.{notice_below}
use Rattle.engine.proofs.CallsLaws.{few}

-- ---- notices

lowered : (b : ℕ) (x : LeaseNotice) (m : Manager) → due_noticed b x m ≤ b
lowered b (N.NewGrants set bar) m = omega arith
lowered b (N.DoRevoke set) m = omega arith
lowered b N.ClearHeld m = omega arith
lowered b (N.RecvLeaseMsg id msg) m = omega arith
lowered b (N.GrantTimeout id) m = omega arith
lowered b (N.LeaseTimeout id) m = omega arith

one_peer : (b : ℕ) (m : Manager) (id : ℕ) (w : PeerNotice) → NotBefore b m → NotBefore (min b (row_due (row_at (on_peer m id w).manager.peers id))) (on_peer m id w).manager
unfolding on_peer
one_peer b m id w h =
    let after = (handled_at m id w).peer in
    rows_changed b m.population id m.peers (on_peer m id w).manager.peers h (λ i ne. get_or-set_other m.peers id i after empty_row ne)

handled : (b : ℕ) (m : Manager) (x : LeaseNotice) → NotBefore b m → NotBefore (due_noticed b x (handle_notice m x).manager) (handle_notice m x).manager
unfolding handle_notice handle_new_grants handle_do_revoke handle_clear_held
handled b m (N.NewGrants set bar) h = rows_passed b m.population m.me (P.NewGrants set) m.peers tt h
handled b m (N.DoRevoke set) h = rows_passed b m.population m.me (P.DoRevoke set) m.peers tt h
handled b m N.ClearHeld h = rows_passed b m.population m.me P.ClearHeld m.peers tt h
handled b m (N.RecvLeaseMsg id msg) h = one_peer b m id (PN.RecvLeaseMsg msg) h
handled b m (N.GrantTimeout id) h = one_peer b m id PN.GrantTimeout h
handled b m (N.LeaseTimeout id) h = one_peer b m id PN.LeaseTimeout h

raised : (b : ℕ) (m : Manager) (num : LeaseNum) → NotBefore b m → NotBefore b (raised_to m num)
unfolding raised_to
raised b m num h = rows_passed b m.population m.me P.HigherNumber m.peers tt h

pub notice_stays : (b : ℕ) (m : Manager) (num : LeaseNum) (x : LeaseNotice) → NotBefore b m → NotBefore (due_noticed b x (accepted_of m num x).manager) (accepted_of m num x).manager
unfolding accepted_of
notice_stays b m num x h = go (ltb num.0 m.active_num.0) (ltb m.active_num.0 num.0)
  where
    after : Bool → Bool → Manager
    after lower higher =
        (cond {A = Accepted} lower (record { lines = numbered num false (outdated x); manager = m })
        (cond {A = Accepted} higher (acted_under num true (handle_notice (raised_to m num) x)) (acted_under num false (handle_notice m x)))).manager

    go : (lower higher : Bool) → NotBefore (due_noticed b x (after lower higher)) (after lower higher)
    go true higher = rows_lower (due_noticed b x m) b m.population m.peers (lowered b x m) h
    go false true = handled b (raised_to m num) x (raised b m num h)
    go false false = handled b m x h

-- the peer of a notice that is not refused has a row
room : (n : ℕ) (x : LeaseNotice) → n ≤ capacity → PeerBelow n x → PeerBelow capacity x
room n (N.NewGrants set bar) l h = tt
room n (N.DoRevoke set) l h = tt
room n N.ClearHeld l h = tt
room n (N.RecvLeaseMsg id msg) l h = omega (arith, l, h)
room n (N.GrantTimeout id) l h = omega (arith, l, h)
room n (N.LeaseTimeout id) l h = omega (arith, l, h)

pub has_row : (m : Manager) (x : LeaseNotice) → record_valid m ≡ true → notice_refusal m.population m.me x ≡ Ok tt → PeerBelow capacity x
has_row m x v a = room m.population x (few m v) (notice_below m.population m.me x a)

-- ---- advances

-- the sent guards of a valid record are unarmed
guard : (e : Option Timer) → sent_guard_valid e ≡ true → NotArmed e
guard None v = tt
guard (Some Unarmed) v = tt
guard (Some (Armed d)) v = absurd (let z : ◌≡◌ {A = ℕ} 0 1 = cc in omega arith)
guard (Some Exploded) v = tt

guard_none : (e : Option Timer) → not (present e) ≡ true → NotArmed e
guard_none None v = tt
guard_none (Some t) v = absurd (let z : ◌≡◌ {A = ℕ} 0 1 = cc in omega arith)

guard-empty : (row : Peer) → row_empty row ≡ true → NotArmed row.guard_sent
unfolding row_empty
guard-empty row e = go row.refresh_mark e
  where
    go : (mark : Bool) → cond mark false (entries_empty row) ≡ true → NotArmed row.guard_sent
    go true e = absurd (let z : ◌≡◌ {A = ℕ} 0 1 = cc in omega arith)
    go false e =
        guard_none row.guard_sent
        (fst-of (not (present row.guard_sent)) (not (granted row.promise_sent))
        (fst-of (not (present row.guard_sent) && not (granted row.promise_sent)) (not (present row.guard_held) && not (present row.promise_held)) e))

guard-row : (now : Reading) (row : Peer) → row_valid now row ≡ true → NotArmed row.guard_sent
unfolding row_valid
guard-row now row e =
    guard row.guard_sent
    (fst-of (sent_guard_valid row.guard_sent) (grant_valid now row.promise_sent)
    (fst-of (sent_guard_valid row.guard_sent && grant_valid now row.promise_sent) (entry_valid now row.guard_held && entry_valid now row.promise_held)
    (fst-of (timers_valid now row) (sides_valid row) e)))

guard-at : (own n i : ℕ) (now : Reading) (row : Peer) → row_valid_at own n now i row ≡ true → NotArmed row.guard_sent
unfolding row_valid_at
guard-at own n i now row e = go (ltb i n) (eqb i own) e
  where
    go : (x y : Bool) → cond x (cond y (row_empty row) (row_valid now row)) (row_empty row) ≡ true → NotArmed row.guard_sent
    go true true e = guard-empty row e
    go true false e = guard-row now row e
    go false y e = guard-empty row e

guards : (m : Manager) → record_valid m ≡ true → GuardsUnarmed m.population m.peers
unfolding GuardsUnarmed
guards m e i h =
    let small = few m e in
    guard-at m.me m.population i m.now _ (row-of m.me m.population m.now m.peers capacity i (rows_of m e) (omega (arith, h, small)))

pub not_due : (b : ℕ) (m : Manager) (to : Reading) → record_valid m ≡ true → to.0 < b → NotBefore b m → marks_of (pass_on m (P.Advance to)) ≡ record { first = bitmap_of m.population 0; second = bitmap_of m.population 0; count = 0 }
not_due b m to v l h = none_marked b m.population m.me to m.peers l h (guards m v)

pub nothing : (b : ℕ) (m : Manager) (to : Reading) → record_valid m ≡ true → to.0 < b → NotBefore b m → (advance_to m to).outcome ≡ Ok (nothing_fired m.population (quiet_end (quiet_fires to m.quiet_timer) m.me m.population))
unfolding advance_to fired_by
nothing b m to v l h =
    let e = not_due b m to v l h in
    let first : (pass_on m (P.Advance to)).first ≡ bitmap_of m.population 0 = ap (λ (x : Marks). x.first) e in
    let second : (pass_on m (P.Advance to)).second ≡ bitmap_of m.population 0 = ap (λ (x : Marks). x.second) e in
    let none : Marks = record { first = bitmap_of m.population 0; second = bitmap_of m.population 0; count = 0 } in
    rw (first, second, neither m.peers none (either none) refl refl) refl

pub advance_few : (m : Manager) (to : Reading) → record_valid m ≡ true → (advance_to m to).manager.population ≤ capacity
unfolding advance_to
advance_few m to v = few m v

pub looked : (m : Manager) → NotBefore (rows_due m.population m.peers) m
looked m = rows_from (rows_due m.population m.peers) m.population m.peers (omega arith)

pub rows_as_before : (b : ℕ) (m : Manager) (to : Reading) → record_valid m ≡ true → to.0 < b → NotBefore b m → (pass_on m (P.Advance to)).peers ≡ m.peers
rows_as_before b m to v l h = rows_stay b m.population m.me to m.peers l h (guards m v)
