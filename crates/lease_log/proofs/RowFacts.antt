-- What ties one peer's row to what the log says of that peer, and that every rule about a row keeps it. Assumes nothing.
use Rattle.std.specs.Prelude.{Option, None, Some}
use mathlib.Core.Path.{◌≡◌, refl, sym}
use mathlib.Core.Bool.{Bool, true, false, not, cond, ◌||◌}
use Prim.Native.Nat.{ℕ, ◌+◌, ◌*◌, ◌≤◌}
use native.Mathlib.Omega.{arith}
use lib.Dec.{leb}
use borrow.Author.Tests.{le-ltb}
use Rattle.lease.specs.Sets.{one}
use Rattle.lease.specs.declared.Bar.{Bar}
use Rattle.lease.specs.Types.{Clock, Reading, Timer, Unarmed, Armed, Exploded}
use Rattle.lease.specs.Timers.{drifted, kicked_off}
use Rattle.lease.specs.declared.Peer.{Peer}
use Rattle.lease.specs.declared.PeerNotice.{PeerNotice}
use Rattle.lease.specs.declared.Handled.{Handled}
use Rattle.lease.specs.declared.Term.{Term}
use Rattle.lease.specs.declared.LeaseMsg.TheVariants as M
use Rattle.lease.specs.declared.PeerNotice.TheVariants as PN
use Rattle.lease.specs.Rows.{granted, present, active_entry}
use Rattle.lease.specs.Handlers.{handle_msg_guard, handle_msg_guard_reply, handle_msg_promise, handle_msg_promise_reply, handle_grant_timeout, handle_lease_timeout, handle_msg, handle_peer_notice}
use Rattle.lease.specs.Passes.{new_grants_row, do_revoke_row, clear_held_row, higher_number_row, advance_row, refresh_row, expired_entry, expired_grant}
use Rattle.reachable.proofs.Numbers.{AtMost, at_most, beyond, lebb, never}
use Rattle.reachable.proofs.Rows.{row_of}
use Rattle.lease_log.specs.Log.{Last, no_line, in-at, out, in_lease}
use Rattle.lease_log.proofs.LogFacts.{actions_of, ended_actions, open_actions, last_actions, About}

module _ (t : ℕ) where
  -- a held promise, against the peer's last held-side line
  abbrev pub LeaseOk : Reading → Option Timer → Last → Type 0
  LeaseOk now None no_line = Unit {0}
  LeaseOk now None (in-at r c) = ⊥
  LeaseOk now None out = Unit {0}
  LeaseOk now (Some Unarmed) h = ⊥
  LeaseOk now (Some (Armed d)) no_line = ⊥
  LeaseOk now (Some (Armed d)) (in-at r c) = d.0 ≡ r.0 + drifted c t
  LeaseOk now (Some (Armed d)) out = ⊥
  LeaseOk now (Some Exploded) no_line = ⊥
  LeaseOk now (Some Exploded) (in-at r c) = r.0 + drifted c t ≤ now.0
  LeaseOk now (Some Exploded) out = ⊥

  -- THE TIE OF A ROW at `now`, with o open Promise lines in the log and h the last held-side line: one open line for a promise sent, and
  -- the promise held as the last line has it
  abbrev pub Tied : Reading → Peer → ℕ → Last → Type 0
  Tied now row o h = (o ≡ one (granted row.promise_sent)) × LeaseOk now row.promise_held h

  -- ---- a notice about the peer

  module _ (now : Reading) (clk : Clock) (id : ℕ) where
    abbrev pub After : Handled → ℕ → Last → Type 0
    After st o h = Tied now st.peer (cond (ended_actions (actions_of st.actions)) 0 o + open_actions (actions_of st.actions)) (last_actions now clk (actions_of st.actions) h)

    abbrev for_t : Timer
    for_t = kicked_off clk now t

    guard-row : (b : Option Bar) (gs : Option Timer) (g : Option (Timer × Bool)) (gh ph : Option Timer) (m : Bool) (o : ℕ) (h : Last) → Tied now (row_of gs g gh ph m) o h
        → After (handle_msg_guard id for_t b (row_of gs g gh ph m)) o h
    guard-row b gs g gh (Some u) m o h k = (omega arith, k.1)
    guard-row None gs g gh None m o h k = (omega arith, k.1)
    guard-row (Some x) gs g gh None m o h k = (omega arith, k.1)

    -- no promise is sent beside a guard
    guard-reply-row : (gs : Option Timer) (g : Option (Timer × Bool)) (gh ph : Option Timer) (m : Bool) (o : ℕ) (h : Last) → Tied now (row_of gs g gh ph m) o h
        → (not (present gs) || not (granted g)) ≡ true → After (handle_msg_guard_reply id (kicked_off clk now (2 * t)) (row_of gs g gh ph m)) o h
    guard-reply-row None g gh ph m o h k s = (omega arith, k.1)
    guard-reply-row (Some u) None gh ph m o h k s = (omega arith, k.1)
    guard-reply-row (Some u) (Some v) gh ph m o h k s = never s

    promise-row : (gs : Option Timer) (g : Option (Timer × Bool)) (gh ph : Option Timer) (m : Bool) (o : ℕ) (h : Last) → Tied now (row_of gs g gh ph m) o h
        → After (handle_msg_promise id for_t (row_of gs g gh ph m)) o h
    promise-row gs g (Some u) ph m o h k = (omega arith, refl)
    promise-row gs g None (Some u) m o h k = (omega arith, refl)
    promise-row gs g None None m o h k = (omega arith, k.1)

    promise-reply-row : (b : Bool) (gs : Option Timer) (g : Option (Timer × Bool)) (gh ph : Option Timer) (m : Bool) (o : ℕ) (h : Last) → Tied now (row_of gs g gh ph m) o h
        → After (handle_msg_promise_reply id for_t b (row_of gs g gh ph m)) o h
    promise-reply-row b gs None gh ph m o h k = (omega arith, k.1)
    promise-reply-row false gs (Some (u, r)) gh ph m o h k = (omega arith, k.1)
    promise-reply-row true gs (Some (u, true)) gh ph m o h k = (omega arith, k.1)
    promise-reply-row true gs (Some (Unarmed, false)) gh ph m o h k = (omega arith, k.1)
    promise-reply-row true gs (Some (Armed d, false)) gh ph m o h k = (omega arith, k.1)
    promise-reply-row true gs (Some (Exploded, false)) gh ph m o h k = (omega arith, k.1)

    grant-timeout-row : (gs : Option Timer) (g : Option (Timer × Bool)) (gh ph : Option Timer) (m : Bool) (o : ℕ) (h : Last) → Tied now (row_of gs g gh ph m) o h
        → After (handle_grant_timeout id (row_of gs g gh ph m)) o h
    grant-timeout-row (Some Unarmed) g gh ph m o h k = (omega arith, k.1)
    grant-timeout-row (Some (Armed d)) g gh ph m o h k = (omega arith, k.1)
    grant-timeout-row None None gh ph m o h k = (omega arith, k.1)
    grant-timeout-row None (Some (Unarmed, r)) gh ph m o h k = (omega arith, k.1)
    grant-timeout-row None (Some (Armed d, r)) gh ph m o h k = (omega arith, k.1)
    grant-timeout-row None (Some (Exploded, r)) gh ph m o h k = (omega arith, k.1)
    grant-timeout-row (Some Exploded) None gh ph m o h k = (omega arith, k.1)
    grant-timeout-row (Some Exploded) (Some (Unarmed, r)) gh ph m o h k = (omega arith, k.1)
    grant-timeout-row (Some Exploded) (Some (Armed d, r)) gh ph m o h k = (omega arith, k.1)
    grant-timeout-row (Some Exploded) (Some (Exploded, r)) gh ph m o h k = (omega arith, k.1)

    lease-timeout-row : (gs : Option Timer) (g : Option (Timer × Bool)) (gh ph : Option Timer) (m : Bool) (o : ℕ) (h : Last) → Tied now (row_of gs g gh ph m) o h
        → After (handle_lease_timeout id (row_of gs g gh ph m)) o h
    lease-timeout-row gs g (Some Unarmed) ph m o h k = (omega arith, k.1)
    lease-timeout-row gs g (Some (Armed d)) ph m o h k = (omega arith, k.1)
    lease-timeout-row gs g None None m o h k = (omega arith, tt)
    lease-timeout-row gs g None (Some Unarmed) m o h k = (omega arith, k.1)
    lease-timeout-row gs g None (Some (Armed d)) m o h k = (omega arith, k.1)
    lease-timeout-row gs g None (Some Exploded) m o h k = (omega arith, tt)
    lease-timeout-row gs g (Some Exploded) None m o h k = (omega arith, tt)
    lease-timeout-row gs g (Some Exploded) (Some Unarmed) m o h k = (omega arith, k.1)
    lease-timeout-row gs g (Some Exploded) (Some (Armed d)) m o h k = (omega arith, k.1)
    lease-timeout-row gs g (Some Exploded) (Some Exploded) m o h k = (omega arith, tt)

    abbrev term : Term
    term = record { clock = clk; now = now; expire_timeout = t }

    pub peer-notice-row : (w : PeerNotice) (row : Peer) (o : ℕ) (h : Last) → (not (present row.guard_sent) || not (granted row.promise_sent)) ≡ true → Tied now row o h
        → After (handle_peer_notice term id w row) o h
    unfolding handle_peer_notice handle_msg
    peer-notice-row (PN.RecvLeaseMsg (M.Guard b)) row o h s k = guard-row b row.guard_sent row.promise_sent row.guard_held row.promise_held row.refresh_mark o h k
    peer-notice-row (PN.RecvLeaseMsg M.GuardReply) row o h s k = guard-reply-row row.guard_sent row.promise_sent row.guard_held row.promise_held row.refresh_mark o h k s
    peer-notice-row (PN.RecvLeaseMsg M.Promise) row o h s k = promise-row row.guard_sent row.promise_sent row.guard_held row.promise_held row.refresh_mark o h k
    peer-notice-row (PN.RecvLeaseMsg (M.PromiseReply b)) row o h s k = promise-reply-row b row.guard_sent row.promise_sent row.guard_held row.promise_held row.refresh_mark o h k
    peer-notice-row (PN.RecvLeaseMsg M.Revoke) row o h s k = (omega arith, tt)
    peer-notice-row (PN.RecvLeaseMsg (M.RevokeReply b)) row o h s k = (omega arith, k.1)
    peer-notice-row PN.GrantTimeout row o h s k = grant-timeout-row row.guard_sent row.promise_sent row.guard_held row.promise_held row.refresh_mark o h k
    peer-notice-row PN.LeaseTimeout row o h s k = lease-timeout-row row.guard_sent row.promise_sent row.guard_held row.promise_held row.refresh_mark o h k

  -- ---- many peers at once: a promise sent and a promise held stay

  new-grants-row' : (now : Reading) (b : Bool) (gs : Option Timer) (g : Option (Timer × Bool)) (gh ph : Option Timer) (m : Bool) (o : ℕ) (h : Last) → Tied now (row_of gs g gh ph m) o h
      → Tied now (new_grants_row b (row_of gs g gh ph m)).peer o h
  new-grants-row' now false gs g gh ph m o h k = k
  new-grants-row' now true gs None gh ph m o h k = k
  new-grants-row' now true gs (Some (u, r)) gh ph m o h k = k

  pub new-grants-row : (now : Reading) (b : Bool) (row : Peer) (o : ℕ) (h : Last) → Tied now row o h → Tied now (new_grants_row b row).peer o h
  new-grants-row now b row o h k = new-grants-row' now b row.guard_sent row.promise_sent row.guard_held row.promise_held row.refresh_mark o h k

  do-revoke-row' : (now : Reading) (b : Bool) (gs : Option Timer) (g : Option (Timer × Bool)) (gh ph : Option Timer) (m : Bool) (o : ℕ) (h : Last) → Tied now (row_of gs g gh ph m) o h
      → Tied now (do_revoke_row b (row_of gs g gh ph m)).peer o h
  do-revoke-row' now false gs g gh ph m o h k = k
  do-revoke-row' now true gs None gh ph m o h k = k
  do-revoke-row' now true gs (Some (u, r)) gh ph m o h k = k

  pub do-revoke-row : (now : Reading) (b : Bool) (row : Peer) (o : ℕ) (h : Last) → Tied now row o h → Tied now (do_revoke_row b row).peer o h
  do-revoke-row now b row o h k = do-revoke-row' now b row.guard_sent row.promise_sent row.guard_held row.promise_held row.refresh_mark o h k

  -- LeaseCleared
  pub clear-held-row : (now : Reading) (row : Peer) (o : ℕ) (h : Last) → Tied now row o h → Tied now (clear_held_row row).peer o out
  clear-held-row now row o h k = (k.0, tt)

  -- HigherNumber
  pub higher-number-row : (now : Reading) (row : Peer) → Tied now (higher_number_row row).peer 0 out
  higher-number-row now row = (refl, tt)

  refresh-row' : (now : Reading) (by : ℕ) (b : Bool) (gs : Option Timer) (g : Option (Timer × Bool)) (gh ph : Option Timer) (m : Bool) (o : ℕ) (h : Last) → Tied now (row_of gs g gh ph m) o h
      → Tied now (refresh_row now by b (row_of gs g gh ph m)).peer o h
  refresh-row' now by b gs None gh ph m o h k = k
  refresh-row' now by false gs (Some (u, r)) gh ph m o h k = k
  refresh-row' now by true gs (Some (u, r)) gh ph false o h k = k
  refresh-row' now by true gs (Some (u, true)) gh ph true o h k = k
  refresh-row' now by true gs (Some (Unarmed, false)) gh ph true o h k = k
  refresh-row' now by true gs (Some (Armed d, false)) gh ph true o h k = k
  refresh-row' now by true gs (Some (Exploded, false)) gh ph true o h k = k

  pub refresh-row : (now : Reading) (by : ℕ) (b : Bool) (row : Peer) (o : ℕ) (h : Last) → Tied now row o h → Tied now (refresh_row now by b row).peer o h
  refresh-row now by b row o h k = refresh-row' now by b row.guard_sent row.promise_sent row.guard_held row.promise_held row.refresh_mark o h k

  -- ---- the clock moves on

  module _ (now next : Reading) (later : now.0 ≤ next.0) where
    advance-lease-ok : (ph : Option Timer) (h : Last) → LeaseOk now ph h → LeaseOk next (expired_entry next ph) h
    advance-lease-ok None no_line k = tt
    advance-lease-ok None (in-at r c) k = absurd k
    advance-lease-ok None out k = tt
    advance-lease-ok (Some Unarmed) h k = absurd k
    advance-lease-ok (Some (Armed d)) no_line k = absurd k
    advance-lease-ok (Some (Armed d)) (in-at r c) k = go (lebb d.0 next.0)
      where
        go : AtMost d.0 next.0 → LeaseOk next (expired_entry next (Some (Armed d))) (in-at r c)
        go (at_most q l) = rw q (omega arith)
        go (beyond q l) = rw q k
    advance-lease-ok (Some (Armed d)) out k = absurd k
    advance-lease-ok (Some Exploded) no_line k = absurd k
    advance-lease-ok (Some Exploded) (in-at r c) k = omega arith
    advance-lease-ok (Some Exploded) out k = absurd k

    advance-promised : (g : Option (Timer × Bool)) → granted (expired_grant next g) ≡ granted g
    advance-promised None = refl
    advance-promised (Some (u, r)) = refl

    pub advance-row : (row : Peer) (o : ℕ) (h : Last) → Tied now row o h → Tied next (advance_row next row).peer o h
    advance-row row o h k = (rw (advance-promised row.promise_sent) k.0, advance-lease-ok row.promise_held h k.1)

  -- ---- what the row and the log agree on

  grant-open : (g : Option (Timer × Bool)) (o : ℕ) → o ≡ one (granted g) → granted g ≡ leb 1 o
  grant-open None o k = rw k
  grant-open (Some (u, r)) o k = rw k

  pub row-grant : (now : Reading) (row : Peer) (o : ℕ) (h : Last) → Tied now row o h → granted row.promise_sent ≡ leb 1 o
  row-grant now row o h k = grant-open row.promise_sent o k.0

  one-open : (g : Option (Timer × Bool)) (o : ℕ) → o ≡ one (granted g) → o ≡ one (leb 1 o)
  one-open None o k = rw k
  one-open (Some (u, r)) o k = rw k

  pub row_open : (now : Reading) (row : Peer) (o : ℕ) (h : Last) → Tied now row o h → o ≡ one (leb 1 o)
  row_open now row o h k = one-open row.promise_sent o k.0

  lease-active : (now : Reading) (ph : Option Timer) (h : Last) → LeaseOk now ph h → active_entry now ph ≡ in_lease t now h
  lease-active now None no_line k = refl
  lease-active now None (in-at r c) k = absurd k
  lease-active now None out k = refl
  lease-active now (Some Unarmed) h k = absurd k
  lease-active now (Some (Armed d)) no_line k = absurd k
  lease-active now (Some (Armed d)) (in-at r c) k = rw k
  lease-active now (Some (Armed d)) out k = absurd k
  lease-active now (Some Exploded) no_line k = absurd k
  lease-active now (Some Exploded) (in-at r c) k = sym (le-ltb now.0 (r.0 + drifted c t) k)
  lease-active now (Some Exploded) out k = absurd k

  pub row-lease : (now : Reading) (row : Peer) (o : ℕ) (h : Last) → Tied now row o h → active_entry now row.promise_held ≡ in_lease t now h
  row-lease now row o h k = lease-active now row.promise_held h k.1

-- ---- the actions of a notice about a peer are about that peer

module _ (term : Term) (id : ℕ) where
  peer-notice-about' : (w : PeerNotice) (gs : Option Timer) (g : Option (Timer × Bool)) (gh ph : Option Timer) (m : Bool) → About id (actions_of (handle_peer_notice term id w (row_of gs g gh ph m)).actions)
  unfolding handle_peer_notice handle_msg
  peer-notice-about' (PN.RecvLeaseMsg (M.Guard b)) gs g gh (Some u) m = tt
  peer-notice-about' (PN.RecvLeaseMsg (M.Guard None)) gs g gh None m = (λ p. refl, tt)
  peer-notice-about' (PN.RecvLeaseMsg (M.Guard (Some x))) gs g gh None m = (λ p. refl, (λ p. refl, tt))
  peer-notice-about' (PN.RecvLeaseMsg M.GuardReply) None g gh ph m = tt
  peer-notice-about' (PN.RecvLeaseMsg M.GuardReply) (Some u) g gh ph m = (λ p. refl, tt)
  peer-notice-about' (PN.RecvLeaseMsg M.Promise) gs g (Some u) ph m = (λ p. refl, tt)
  peer-notice-about' (PN.RecvLeaseMsg M.Promise) gs g None (Some u) m = (λ p. refl, tt)
  peer-notice-about' (PN.RecvLeaseMsg M.Promise) gs g None None m = (λ p. refl, tt)
  peer-notice-about' (PN.RecvLeaseMsg (M.PromiseReply b)) gs None gh ph m = tt
  peer-notice-about' (PN.RecvLeaseMsg (M.PromiseReply false)) gs (Some (u, r)) gh ph m = (λ p. refl, tt)
  peer-notice-about' (PN.RecvLeaseMsg (M.PromiseReply true)) gs (Some (u, true)) gh ph m = tt
  peer-notice-about' (PN.RecvLeaseMsg (M.PromiseReply true)) gs (Some (Unarmed, false)) gh ph m = (λ p. refl, tt)
  peer-notice-about' (PN.RecvLeaseMsg (M.PromiseReply true)) gs (Some (Armed d, false)) gh ph m = (λ p. refl, tt)
  peer-notice-about' (PN.RecvLeaseMsg (M.PromiseReply true)) gs (Some (Exploded, false)) gh ph m = tt
  peer-notice-about' (PN.RecvLeaseMsg M.Revoke) gs g gh ph m = (λ p. refl, tt)
  peer-notice-about' (PN.RecvLeaseMsg (M.RevokeReply b)) gs g gh ph m = (λ p. refl, tt)
  peer-notice-about' PN.GrantTimeout None None gh ph m = (λ p. refl, tt)
  peer-notice-about' PN.GrantTimeout None (Some (Unarmed, r)) gh ph m = tt
  peer-notice-about' PN.GrantTimeout None (Some (Armed d, r)) gh ph m = tt
  peer-notice-about' PN.GrantTimeout None (Some (Exploded, r)) gh ph m = (λ p. refl, tt)
  peer-notice-about' PN.GrantTimeout (Some Unarmed) g gh ph m = tt
  peer-notice-about' PN.GrantTimeout (Some (Armed d)) g gh ph m = tt
  peer-notice-about' PN.GrantTimeout (Some Exploded) None gh ph m = (λ p. refl, tt)
  peer-notice-about' PN.GrantTimeout (Some Exploded) (Some (Unarmed, r)) gh ph m = tt
  peer-notice-about' PN.GrantTimeout (Some Exploded) (Some (Armed d, r)) gh ph m = tt
  peer-notice-about' PN.GrantTimeout (Some Exploded) (Some (Exploded, r)) gh ph m = (λ p. refl, tt)
  peer-notice-about' PN.LeaseTimeout gs g None None m = (λ p. refl, tt)
  peer-notice-about' PN.LeaseTimeout gs g None (Some Unarmed) m = tt
  peer-notice-about' PN.LeaseTimeout gs g None (Some (Armed d)) m = tt
  peer-notice-about' PN.LeaseTimeout gs g None (Some Exploded) m = (λ p. refl, tt)
  peer-notice-about' PN.LeaseTimeout gs g (Some Unarmed) ph m = tt
  peer-notice-about' PN.LeaseTimeout gs g (Some (Armed d)) ph m = tt
  peer-notice-about' PN.LeaseTimeout gs g (Some Exploded) None m = (λ p. refl, tt)
  peer-notice-about' PN.LeaseTimeout gs g (Some Exploded) (Some Unarmed) m = tt
  peer-notice-about' PN.LeaseTimeout gs g (Some Exploded) (Some (Armed d)) m = tt
  peer-notice-about' PN.LeaseTimeout gs g (Some Exploded) (Some Exploded) m = (λ p. refl, tt)

  pub peer-notice-about : (w : PeerNotice) (row : Peer) → About id (actions_of (handle_peer_notice term id w row).actions)
  peer-notice-about w row = peer-notice-about' w row.guard_sent row.promise_sent row.guard_held row.promise_held row.refresh_mark
