-- What holds of one id's row, with bounds on how far past now its deadlines reach, and that every rule about a row keeps it. Assumes nothing.
use Rattle.std.specs.Prelude.{Option, None, Some}
use mathlib.Core.Path.{◌≡◌, refl}
use mathlib.Core.Bool.{Bool, true, false, not, ◌&&◌, ◌||◌}
use Prim.Native.Nat.{ℕ, ◌+◌, ◌*◌, ◌≤◌, ◌<◌}
use native.Mathlib.Omega.{arith}
use lib.Dec.{leb, ltb}
use borrow.Author.Tests.{lt-ltb, le-leb, ltb-true, leb-true}
use Rattle.lease.specs.Types.{Clock, Reading, Timer, Unarmed, Armed, Exploded}
use Rattle.lease.specs.Timers.{farthest, drifted, kicked_off}
use Rattle.lease.specs.declared.Bar.{Bar}
use Rattle.lease.specs.declared.Peer.{Peer}
use Rattle.lease.specs.declared.PeerNotice.{PeerNotice}
use Rattle.lease.specs.declared.Term.{Term}
use Rattle.lease.specs.declared.LeaseMsg.TheVariants as M
use Rattle.lease.specs.declared.PeerNotice.TheVariants as PN
use Rattle.lease.specs.Rows.{granted, present}
use Rattle.lease.specs.Fired.{sent_deadline, held_deadline}
use Rattle.lease.specs.Handlers.{handle_msg_guard, handle_msg_guard_reply, handle_msg_promise, handle_msg_promise_reply, handle_grant_timeout, handle_lease_timeout, handle_msg, handle_peer_notice}
use Rattle.lease.specs.Passes.{new_grants_row, do_revoke_row, clear_held_row, higher_number_row, advance_row, refresh_row, expired_entry, expired_grant}
use Rattle.lease.specs.RecordCheck.{deadline_valid, sent_guard_valid, entry_valid, grant_valid, timers_valid, sides_valid, row_valid}
use Rattle.lease.proofs.Tests.{both, fst-of, snd-of}
use Rattle.reachable.proofs.Numbers.{AtMost, at_most, beyond, lebb, and-true, never}

abbrev pub row_of : Option Timer → Option (Timer × Bool) → Option Timer → Option Timer → Bool → Peer
row_of gs g gh ph m = record { guard_sent = gs; promise_sent = g; guard_held = gh; promise_held = ph; refresh_mark = m }

abbrev pub NoGrant : Option (Timer × Bool) → Type 0
NoGrant None = Unit {0}
NoGrant (Some (t, r)) = ⊥

abbrev pub NoEntry : Option Timer → Type 0
NoEntry None = Unit {0}
NoEntry (Some t) = ⊥

-- ---- a row whose sent deadlines reach `sent` past now, by the mark, and whose held ones reach `held`

module _ (sent : Bool → ℕ) (held : ℕ) where
  abbrev pub GrantOk : Reading → Bool → Option (Timer × Bool) → Type 0
  GrantOk now m None = Unit {0}
  GrantOk now m (Some (Unarmed, r)) = ⊥
  GrantOk now m (Some (Armed d, r)) = (now.0 < d.0) × (d.0 ≤ now.0 + sent m)
  GrantOk now m (Some (Exploded, r)) = Unit {0}

  -- a sent guard is unarmed and no promise is beside it
  abbrev pub SentOk : Reading → Bool → Option Timer → Option (Timer × Bool) → Type 0
  SentOk now m None g = GrantOk now m g
  SentOk now m (Some Unarmed) g = NoGrant g
  SentOk now m (Some (Armed d)) g = ⊥
  SentOk now m (Some Exploded) g = ⊥

  abbrev pub EntryOk : Reading → Option Timer → Type 0
  EntryOk now None = Unit {0}
  EntryOk now (Some Unarmed) = ⊥
  EntryOk now (Some (Armed d)) = (now.0 < d.0) × (d.0 ≤ now.0 + held)
  EntryOk now (Some Exploded) = Unit {0}

  -- a held guard has no promise beside it
  abbrev pub HeldOk : Reading → Option Timer → Option Timer → Type 0
  HeldOk now None ph = EntryOk now ph
  HeldOk now (Some u) ph = EntryOk now (Some u) × NoEntry ph

  abbrev pub RowOk : Reading → Peer → Type 0
  RowOk now row = SentOk now row.refresh_mark row.guard_sent row.promise_sent × HeldOk now row.guard_held row.promise_held

  -- ---- a notice about the peer

  module _ (t : ℕ) (now : Reading) (clk : Clock) (id : ℕ) (wide : (m : Bool) → 2000000000000 ≤ sent m) (wide_held : 1000000000000 ≤ held)
      (p1 : 0 < drifted clk t) (b1 : drifted clk t ≤ 1000000000000) (p2 : 0 < drifted clk (2 * t)) (b2 : drifted clk (2 * t) ≤ 2000000000000) where
    abbrev for_t : Timer
    for_t = kicked_off clk now t

    guard-row : (b : Option Bar) (gs : Option Timer) (g : Option (Timer × Bool)) (gh ph : Option Timer) (m : Bool) → RowOk now (row_of gs g gh ph m) → RowOk now (handle_msg_guard id for_t b (row_of gs g gh ph m)).peer
    guard-row b gs g gh (Some u) m k = k
    guard-row None gs g gh None m k = (k.0, omega arith)
    guard-row (Some x) gs g gh None m k = (k.0, omega arith)

    guard-reply-row : (gs : Option Timer) (g : Option (Timer × Bool)) (gh ph : Option Timer) (m : Bool) → RowOk now (row_of gs g gh ph m)
        → RowOk now (handle_msg_guard_reply id (kicked_off clk now (2 * t)) (row_of gs g gh ph m)).peer
    guard-reply-row None g gh ph m k = k
    guard-reply-row (Some u) g gh ph m k = (omega (arith, wide m), k.1)

    promise-row : (gs : Option Timer) (g : Option (Timer × Bool)) (gh ph : Option Timer) (m : Bool) → RowOk now (row_of gs g gh ph m) → RowOk now (handle_msg_promise id for_t (row_of gs g gh ph m)).peer
    promise-row gs g (Some u) ph m k = (k.0, omega arith)
    promise-row gs g None (Some u) m k = (k.0, omega arith)
    promise-row gs g None None m k = k

    promise-reply-row : (b : Bool) (gs : Option Timer) (g : Option (Timer × Bool)) (gh ph : Option Timer) (m : Bool) → RowOk now (row_of gs g gh ph m) → RowOk now (handle_msg_promise_reply id for_t b (row_of gs g gh ph m)).peer
    promise-reply-row b gs None gh ph m k = k
    promise-reply-row b (Some Unarmed) (Some (u, r)) gh ph m k = absurd k.0
    promise-reply-row b (Some (Armed d)) (Some (u, r)) gh ph m k = absurd k.0
    promise-reply-row b (Some Exploded) (Some (u, r)) gh ph m k = absurd k.0
    promise-reply-row false None (Some (u, r)) gh ph m k = (tt, k.1)
    promise-reply-row true None (Some (Unarmed, r)) gh ph m k = absurd k.0
    promise-reply-row true None (Some (Armed d, false)) gh ph m k = (omega (arith, wide true), k.1)
    promise-reply-row true None (Some (Armed d, true)) gh ph m k = k
    promise-reply-row true None (Some (Exploded, false)) gh ph m k = k
    promise-reply-row true None (Some (Exploded, true)) gh ph m k = k

    grant-timeout-row : (gs : Option Timer) (g : Option (Timer × Bool)) (gh ph : Option Timer) (m : Bool) → RowOk now (row_of gs g gh ph m) → RowOk now (handle_grant_timeout id (row_of gs g gh ph m)).peer
    grant-timeout-row None None gh ph m k = k
    grant-timeout-row None (Some (Unarmed, r)) gh ph m k = absurd k.0
    grant-timeout-row None (Some (Armed d, r)) gh ph m k = k
    grant-timeout-row None (Some (Exploded, r)) gh ph m k = (tt, k.1)
    grant-timeout-row (Some Unarmed) g gh ph m k = k
    grant-timeout-row (Some (Armed d)) g gh ph m k = absurd k.0
    grant-timeout-row (Some Exploded) g gh ph m k = absurd k.0

    lease-timeout-row : (gs : Option Timer) (g : Option (Timer × Bool)) (gh ph : Option Timer) (m : Bool) → RowOk now (row_of gs g gh ph m) → RowOk now (handle_lease_timeout id (row_of gs g gh ph m)).peer
    lease-timeout-row gs g None None m k = k
    lease-timeout-row gs g None (Some Unarmed) m k = absurd k.1
    lease-timeout-row gs g None (Some (Armed d)) m k = k
    lease-timeout-row gs g None (Some Exploded) m k = (k.0, tt)
    lease-timeout-row gs g (Some Unarmed) ph m k = absurd k.1.0
    lease-timeout-row gs g (Some (Armed d)) ph m k = k
    lease-timeout-row gs g (Some Exploded) None m k = (k.0, tt)
    lease-timeout-row gs g (Some Exploded) (Some u) m k = absurd k.1.1

    abbrev term : Term
    term = record { clock = clk; now = now; expire_timeout = t }

    pub peer-notice-row : (w : PeerNotice) (row : Peer) → RowOk now row → RowOk now (handle_peer_notice term id w row).peer
    unfolding handle_peer_notice handle_msg
    peer-notice-row (PN.RecvLeaseMsg (M.Guard b)) row k = guard-row b row.guard_sent row.promise_sent row.guard_held row.promise_held row.refresh_mark k
    peer-notice-row (PN.RecvLeaseMsg M.GuardReply) row k = guard-reply-row row.guard_sent row.promise_sent row.guard_held row.promise_held row.refresh_mark k
    peer-notice-row (PN.RecvLeaseMsg M.Promise) row k = promise-row row.guard_sent row.promise_sent row.guard_held row.promise_held row.refresh_mark k
    peer-notice-row (PN.RecvLeaseMsg (M.PromiseReply b)) row k = promise-reply-row b row.guard_sent row.promise_sent row.guard_held row.promise_held row.refresh_mark k
    peer-notice-row (PN.RecvLeaseMsg M.Revoke) row k = (k.0, tt)
    peer-notice-row (PN.RecvLeaseMsg (M.RevokeReply b)) row k = (tt, k.1)
    peer-notice-row PN.GrantTimeout row k = grant-timeout-row row.guard_sent row.promise_sent row.guard_held row.promise_held row.refresh_mark k
    peer-notice-row PN.LeaseTimeout row k = lease-timeout-row row.guard_sent row.promise_sent row.guard_held row.promise_held row.refresh_mark k

  -- ---- many peers at once

  new-grants-row' : (now : Reading) (b : Bool) (gs : Option Timer) (g : Option (Timer × Bool)) (gh ph : Option Timer) (m : Bool) → RowOk now (row_of gs g gh ph m) → RowOk now (new_grants_row b (row_of gs g gh ph m)).peer
  new-grants-row' now true gs None gh ph m k = (tt, k.1)
  new-grants-row' now true gs (Some (u, r)) gh ph m k = k
  new-grants-row' now false gs g gh ph m k = k

  pub new-grants-row : (now : Reading) (b : Bool) (row : Peer) → RowOk now row → RowOk now (new_grants_row b row).peer
  new-grants-row now b row k = new-grants-row' now b row.guard_sent row.promise_sent row.guard_held row.promise_held row.refresh_mark k

  do-revoke-row' : (now : Reading) (b : Bool) (gs : Option Timer) (g : Option (Timer × Bool)) (gh ph : Option Timer) (m : Bool) → RowOk now (row_of gs g gh ph m) → RowOk now (do_revoke_row b (row_of gs g gh ph m)).peer
  do-revoke-row' now true gs None gh ph m k = (tt, k.1)
  do-revoke-row' now true None (Some (Unarmed, r)) gh ph m k = absurd k.0
  do-revoke-row' now true None (Some (Armed d, r)) gh ph m k = k
  do-revoke-row' now true None (Some (Exploded, r)) gh ph m k = k
  do-revoke-row' now true (Some Unarmed) (Some (u, r)) gh ph m k = absurd k.0
  do-revoke-row' now true (Some (Armed d)) (Some (u, r)) gh ph m k = absurd k.0
  do-revoke-row' now true (Some Exploded) (Some (u, r)) gh ph m k = absurd k.0
  do-revoke-row' now false gs g gh ph m k = k

  pub do-revoke-row : (now : Reading) (b : Bool) (row : Peer) → RowOk now row → RowOk now (do_revoke_row b row).peer
  do-revoke-row now b row k = do-revoke-row' now b row.guard_sent row.promise_sent row.guard_held row.promise_held row.refresh_mark k

  pub clear-held-row : (now : Reading) (row : Peer) → RowOk now row → RowOk now (clear_held_row row).peer
  clear-held-row now row k = (k.0, tt)

  pub higher-number-row : (now : Reading) (row : Peer) → RowOk now (higher_number_row row).peer
  higher-number-row now row = (tt, tt)

  -- a refresh, which adds up to 1,000 s and takes the mark away
  refresh-row' : (now : Reading) (by : ℕ) (b : Bool) → by ≤ 1000000000000 → sent true + 1000000000000 ≤ sent false → (gs : Option Timer) (g : Option (Timer × Bool)) (gh ph : Option Timer) (m : Bool)
      → RowOk now (row_of gs g gh ph m) → RowOk now (refresh_row now by b (row_of gs g gh ph m)).peer
  refresh-row' now by b l w gs None gh ph m k = k
  refresh-row' now by false l w gs (Some (u, r)) gh ph m k = k
  refresh-row' now by true l w gs (Some (u, r)) gh ph false k = k
  refresh-row' now by true l w (Some Unarmed) (Some (u, r)) gh ph true k = absurd k.0
  refresh-row' now by true l w (Some (Armed d)) (Some (u, r)) gh ph true k = absurd k.0
  refresh-row' now by true l w (Some Exploded) (Some (u, r)) gh ph true k = absurd k.0
  refresh-row' now by true l w None (Some (Unarmed, r)) gh ph true k = absurd k.0
  refresh-row' now by true l w None (Some (Armed d, true)) gh ph true k = (omega arith, k.1)
  refresh-row' now by true l w None (Some (Armed d, false)) gh ph true k = (omega arith, k.1)
  refresh-row' now by true l w None (Some (Exploded, true)) gh ph true k = k
  refresh-row' now by true l w None (Some (Exploded, false)) gh ph true k = k

  pub refresh-row : (now : Reading) (by : ℕ) (b : Bool) → by ≤ 1000000000000 → sent true + 1000000000000 ≤ sent false → (row : Peer) → RowOk now row → RowOk now (refresh_row now by b row).peer
  refresh-row now by b l w row k = refresh-row' now by b l w row.guard_sent row.promise_sent row.guard_held row.promise_held row.refresh_mark k

  -- ---- the clock moves on

  module _ (now next : Reading) (later : now.0 ≤ next.0) where
    grant-later : (m : Bool) (g : Option (Timer × Bool)) → GrantOk now m g → GrantOk next m (expired_grant next g)
    grant-later m None k = tt
    grant-later m (Some (Unarmed, r)) k = absurd k
    grant-later m (Some (Armed d, r)) k = go (lebb d.0 next.0)
      where
        go : AtMost d.0 next.0 → GrantOk next m (expired_grant next (Some (Armed d, r)))
        go (at_most q l) = rw q tt
        go (beyond q l) = rw q (omega arith)
    grant-later m (Some (Exploded, r)) k = tt

    entry-later : (s : Option Timer) → EntryOk now s → EntryOk next (expired_entry next s)
    entry-later None k = tt
    entry-later (Some Unarmed) k = absurd k
    entry-later (Some (Armed d)) k = go (lebb d.0 next.0)
      where
        go : AtMost d.0 next.0 → EntryOk next (expired_entry next (Some (Armed d)))
        go (at_most q l) = rw q tt
        go (beyond q l) = rw q (omega arith)
    entry-later (Some Exploded) k = tt

    sent-later : (m : Bool) (gs : Option Timer) (g : Option (Timer × Bool)) → SentOk now m gs g → SentOk next m (expired_entry next gs) (expired_grant next g)
    sent-later m None g k = grant-later m g k
    sent-later m (Some Unarmed) None k = tt
    sent-later m (Some Unarmed) (Some (u, r)) k = absurd k
    sent-later m (Some (Armed d)) g k = absurd k
    sent-later m (Some Exploded) g k = absurd k

    held-later : (gh ph : Option Timer) → HeldOk now gh ph → HeldOk next (expired_entry next gh) (expired_entry next ph)
    held-later None ph k = entry-later ph k
    held-later (Some u) None k = (entry-later (Some u) k.0, tt)
    held-later (Some u) (Some v) k = absurd k.1

    pub advance-row : (row : Peer) → RowOk now row → RowOk next (advance_row next row).peer
    advance-row row k = (sent-later row.refresh_mark row.guard_sent row.promise_sent k.0, held-later row.guard_held row.promise_held k.1)

  -- ---- what it says of deadlines, 0 where nothing is armed

  sent-near : (now : Reading) (m : Bool) (gs : Option Timer) (g : Option (Timer × Bool)) (gh ph : Option Timer) → SentOk now m gs g → sent_deadline (row_of gs g gh ph m) ≤ now.0 + sent m
  sent-near now m None None gh ph k = omega arith
  sent-near now m None (Some (Unarmed, r)) gh ph k = absurd k
  sent-near now m None (Some (Armed d, r)) gh ph k = k.1
  sent-near now m None (Some (Exploded, r)) gh ph k = omega arith
  sent-near now m (Some Unarmed) g gh ph k = omega arith
  sent-near now m (Some (Armed d)) g gh ph k = absurd k
  sent-near now m (Some Exploded) g gh ph k = absurd k

  held-near : (now : Reading) (m : Bool) (gs : Option Timer) (g : Option (Timer × Bool)) (gh ph : Option Timer) → HeldOk now gh ph → held_deadline (row_of gs g gh ph m) ≤ now.0 + held
  held-near now m gs g None None k = omega arith
  held-near now m gs g None (Some Unarmed) k = absurd k
  held-near now m gs g None (Some (Armed d)) k = k.1
  held-near now m gs g None (Some Exploded) k = omega arith
  held-near now m gs g (Some Unarmed) ph k = absurd k.0
  held-near now m gs g (Some (Armed d)) ph k = k.0.1
  held-near now m gs g (Some Exploded) ph k = omega arith

  pub row-near : (now : Reading) (row : Peer) → RowOk now row → (sent_deadline row ≤ now.0 + sent row.refresh_mark) × (held_deadline row ≤ now.0 + held)
  row-near now row k =
      (sent-near now row.refresh_mark row.guard_sent row.promise_sent row.guard_held row.promise_held k.0, held-near now row.refresh_mark row.guard_sent row.promise_sent row.guard_held row.promise_held k.1)

-- ---- such a row is valid

pub deadline-valid : (now d : Reading) → now.0 < d.0 → d.0 ≤ now.0 + farthest → deadline_valid now d ≡ true
deadline-valid now d a b = rw (lt-ltb now.0 d.0 a, le-leb d.0 (now.0 + farthest) b)

module _ (sent : Bool → ℕ) (held : ℕ) (near : (m : Bool) → sent m ≤ farthest) (near_held : held ≤ farthest) where
  grant-valid : (now : Reading) (m : Bool) (g : Option (Timer × Bool)) → GrantOk sent held now m g → grant_valid now g ≡ true
  grant-valid now m None k = refl
  grant-valid now m (Some (Unarmed, r)) k = absurd k
  grant-valid now m (Some (Armed d, r)) k = deadline-valid now d k.0 (omega (arith, near m))
  grant-valid now m (Some (Exploded, r)) k = refl

  entry-valid : (now : Reading) (s : Option Timer) → EntryOk sent held now s → entry_valid now s ≡ true
  entry-valid now None k = refl
  entry-valid now (Some Unarmed) k = absurd k
  entry-valid now (Some (Armed d)) k = deadline-valid now d k.0 (omega arith)
  entry-valid now (Some Exploded) k = refl

  sent-valid : (now : Reading) (m : Bool) (gs : Option Timer) (g : Option (Timer × Bool)) → SentOk sent held now m gs g
      → ((sent_guard_valid gs && grant_valid now g) ≡ true) × ((not (present gs) || not (granted g)) ≡ true)
  sent-valid now m None g k = (grant-valid now m g k, refl)
  sent-valid now m (Some Unarmed) None k = (refl, refl)
  sent-valid now m (Some Unarmed) (Some (u, r)) k = absurd k
  sent-valid now m (Some (Armed d)) g k = absurd k
  sent-valid now m (Some Exploded) g k = absurd k

  held-valid : (now : Reading) (gh ph : Option Timer) → HeldOk sent held now gh ph → ((entry_valid now gh && entry_valid now ph) ≡ true) × ((not (present gh) || not (present ph)) ≡ true)
  held-valid now None ph k = (entry-valid now ph k, refl)
  held-valid now (Some u) None k = (and-true (entry_valid now (Some u)) true (entry-valid now (Some u) k.0) refl, refl)
  held-valid now (Some u) (Some v) k = absurd k.1

  pub row-valid : (now : Reading) (row : Peer) → RowOk sent held now row → row_valid now row ≡ true
  unfolding row_valid
  row-valid now row k =
      let s = sent-valid now row.refresh_mark row.guard_sent row.promise_sent k.0 in
      let d = held-valid now row.guard_held row.promise_held k.1 in
      and-true (timers_valid now row) (sides_valid row)
      (and-true (sent_guard_valid row.guard_sent && grant_valid now row.promise_sent) (entry_valid now row.guard_held && entry_valid now row.promise_held) s.0 d.0)
      (and-true (not (present row.guard_sent) || not (granted row.promise_sent)) (not (present row.guard_held) || not (present row.promise_held)) s.1 d.1)

-- ---- a valid row is such a row

pub deadline-ok : (now d : Reading) → deadline_valid now d ≡ true → (now.0 < d.0) × (d.0 ≤ now.0 + farthest)
deadline-ok now d e =
    let b = both (ltb now.0 d.0) (leb d.0 (now.0 + farthest)) e in
    (ltb-true now.0 d.0 b.0, leb-true d.0 (now.0 + farthest) b.1)

module _ (sent : Bool → ℕ) (held : ℕ) (far_held : farthest ≤ held) where
  grant-ok : (now : Reading) (m : Bool) (g : Option (Timer × Bool)) (gh ph : Option Timer) → sent_deadline (row_of None g gh ph m) ≤ now.0 + sent m → grant_valid now g ≡ true → GrantOk sent held now m g
  grant-ok now m None gh ph l e = tt
  grant-ok now m (Some (Unarmed, r)) gh ph l e = never e
  grant-ok now m (Some (Armed d, r)) gh ph l e = ((deadline-ok now d e).0, l)
  grant-ok now m (Some (Exploded, r)) gh ph l e = tt

  sent-ok : (now : Reading) (m : Bool) (gs : Option Timer) (g : Option (Timer × Bool)) (gh ph : Option Timer) → sent_deadline (row_of gs g gh ph m) ≤ now.0 + sent m
      → sent_guard_valid gs ≡ true → grant_valid now g ≡ true → (not (present gs) || not (granted g)) ≡ true → SentOk sent held now m gs g
  sent-ok now m None g gh ph l a b c = grant-ok now m g gh ph l b
  sent-ok now m (Some Unarmed) None gh ph l a b c = tt
  sent-ok now m (Some Unarmed) (Some (u, r)) gh ph l a b c = never c
  sent-ok now m (Some (Armed d)) g gh ph l a b c = never a
  sent-ok now m (Some Exploded) g gh ph l a b c = never a

  entry-ok : (now : Reading) (s : Option Timer) → entry_valid now s ≡ true → EntryOk sent held now s
  entry-ok now None e = tt
  entry-ok now (Some Unarmed) e = never e
  entry-ok now (Some (Armed d)) e = let k = deadline-ok now d e in (k.0, omega (arith, k.1))
  entry-ok now (Some Exploded) e = tt

  held-ok : (now : Reading) (gh ph : Option Timer) → entry_valid now gh ≡ true → entry_valid now ph ≡ true → (not (present gh) || not (present ph)) ≡ true → HeldOk sent held now gh ph
  held-ok now None ph a b c = entry-ok now ph b
  held-ok now (Some u) None a b c = (entry-ok now (Some u) a, tt)
  held-ok now (Some u) (Some v) a b c = never c

  -- if its sent deadline is near enough
  pub row-ok : (now : Reading) (row : Peer) → row_valid now row ≡ true → sent_deadline row ≤ now.0 + sent row.refresh_mark → RowOk sent held now row
  unfolding row_valid
  row-ok now row e l =
      let g = sent_guard_valid row.guard_sent && grant_valid now row.promise_sent in
      let h = entry_valid now row.guard_held && entry_valid now row.promise_held in
      let s = not (present row.guard_sent) || not (granted row.promise_sent) in
      let d = not (present row.guard_held) || not (present row.promise_held) in
      let timers = fst-of (g && h) (s && d) e in
      let sides = snd-of (g && h) (s && d) e in (
        sent-ok now row.refresh_mark row.guard_sent row.promise_sent row.guard_held row.promise_held l
            (fst-of (sent_guard_valid row.guard_sent) (grant_valid now row.promise_sent) (fst-of g h timers))
            (snd-of (sent_guard_valid row.guard_sent) (grant_valid now row.promise_sent) (fst-of g h timers)) (fst-of s d sides),
        held-ok now row.guard_held row.promise_held
            (fst-of (entry_valid now row.guard_held) (entry_valid now row.promise_held) (snd-of g h timers))
            (snd-of (entry_valid now row.guard_held) (entry_valid now row.promise_held) (snd-of g h timers)) (snd-of s d sides),
      )

-- the sent deadline of a valid row is near
sent-far' : (now : Reading) (gs : Option Timer) (g : Option (Timer × Bool)) (gh ph : Option Timer) (m : Bool) → sent_guard_valid gs ≡ true → grant_valid now g ≡ true → sent_deadline (row_of gs g gh ph m) ≤ now.0 + farthest
sent-far' now None None gh ph m a b = omega arith
sent-far' now None (Some (Unarmed, r)) gh ph m a b = omega arith
sent-far' now None (Some (Armed d, r)) gh ph m a b = (deadline-ok now d b).1
sent-far' now None (Some (Exploded, r)) gh ph m a b = omega arith
sent-far' now (Some Unarmed) g gh ph m a b = omega arith
sent-far' now (Some (Armed d)) g gh ph m a b = never a
sent-far' now (Some Exploded) g gh ph m a b = never a

pub sent-far : (now : Reading) (row : Peer) → row_valid now row ≡ true → sent_deadline row ≤ now.0 + farthest
unfolding row_valid
sent-far now row e =
    let g = sent_guard_valid row.guard_sent && grant_valid now row.promise_sent in
    let h = entry_valid now row.guard_held && entry_valid now row.promise_held in
    let first = fst-of g h (fst-of (g && h) (sides_valid row) e) in
    sent-far' now row.guard_sent row.promise_sent row.guard_held row.promise_held row.refresh_mark
    (fst-of (sent_guard_valid row.guard_sent) (grant_valid now row.promise_sent) first)
    (snd-of (sent_guard_valid row.guard_sent) (grant_valid now row.promise_sent) first)

-- no promise is sent beside a guard
pub sent-apart : (now : Reading) (row : Peer) → row_valid now row ≡ true → (not (present row.guard_sent) || not (granted row.promise_sent)) ≡ true
unfolding row_valid
sent-apart now row e =
    let s = not (present row.guard_sent) || not (granted row.promise_sent) in
    fst-of s (not (present row.guard_held) || not (present row.promise_held)) (snd-of (timers_valid now row) (sides_valid row) e)
