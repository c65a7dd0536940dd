-- Rules 7.7 to 7.13: the notices about one peer, each a rule on that peer's row. `t` is a timer that has just been kicked off.
use Rattle.std.specs.Prelude.{ℕ, ◌*◌, Bool, true, false, cond, ◌||◌, Option, None, Some}
use Rattle.lease.specs.declared.Bar.{Bar}
use Rattle.timer.specs.declared.Timer.{Timer}
use Rattle.timer.specs.Timers.{is_exploded, kicked_off}
use Rattle.lease.specs.declared.Peer.{Peer}
use Rattle.lease.specs.declared.LeaseMsg.{LeaseMsg}
use Rattle.lease.specs.declared.LeaseMsg.TheVariants as M
use Rattle.lease.specs.declared.PeerNotice.{PeerNotice}
use Rattle.lease.specs.declared.PeerNotice.TheVariants as PN
use Rattle.lease.specs.declared.LeaseAction.{LeaseAction}
use Rattle.lease.specs.declared.LeaseAction.TheVariants as A
use Rattle.lease.specs.declared.Actions.TheVariants as AS
use Rattle.lease.specs.declared.Handled.{Handled}
use Rattle.lease.specs.declared.Term.{Term}
use Rattle.lease.specs.Rows.{with_held, with_sent, present, unexploded, unexploded_grant}

-- ---- how a handler ends: with no action, one or two (rule 7.14)

abbrev pub no_action : Peer → Handled
no_action row = record { peer = row; actions = AS.None }

abbrev pub one_action : Peer → LeaseAction → Handled
one_action row a = record { peer = row; actions = AS.One a }

abbrev pub two_actions : Peer → LeaseAction → LeaseAction → Handled
two_actions row a b = record { peer = row; actions = AS.Two a b }

-- ---- the held side

-- rule 7.7: while a promise from the peer is held, a Guard does nothing; otherwise it puts a guard for T in the place of any other, reports
-- its bar where it has one, and is answered GuardReply
abbrev pub guard_replies : Option Bar → ℕ → Peer → Handled
guard_replies None id row = one_action row (A.SendLeaseMsg id M.GuardReply)
guard_replies (Some bar) id row = two_actions row (A.GuardAcceptBar id bar) (A.SendLeaseMsg id M.GuardReply)

abbrev pub guard_unless_held : Option Timer → ℕ → Timer → Option Bar → Peer → Handled
guard_unless_held (Some u) id t bar row = no_action row
guard_unless_held None id t bar row = guard_replies bar id (with_held row (Some t) None)

abbrev pub handle_msg_guard : ℕ → Timer → Option Bar → Peer → Handled
handle_msg_guard id t bar row = guard_unless_held row.promise_held id t bar row

-- rule 7.9: a held guard, even an exploded one, becomes a held promise for T, and a held promise starts anew for T; a peer with neither is
-- told PromiseReply{false}
abbrev pub promise_on : Option Timer → Option Timer → ℕ → Timer → Peer → Handled
promise_on (Some u) promise id t row = one_action (with_held row None (Some t)) (A.SendLeaseMsg id (M.PromiseReply true))
promise_on None (Some u) id t row = one_action (with_held row None (Some t)) (A.SendLeaseMsg id (M.PromiseReply true))
promise_on None None id t row = one_action row (A.SendLeaseMsg id (M.PromiseReply false))

abbrev pub handle_msg_promise : ℕ → Timer → Peer → Handled
handle_msg_promise id t row = promise_on row.guard_held row.promise_held id t row

-- rule 7.11: all that is held from the peer goes, and RevokeReply says whether a promise was among it
abbrev pub handle_msg_revoke : ℕ → Peer → Handled
handle_msg_revoke id row = one_action (with_held row None None) (A.SendLeaseMsg id (M.RevokeReply (present row.promise_held)))

-- rule 7.13: while a timer of the held side is not exploded, nothing; otherwise all there goes and is reported, even where there is none
abbrev pub handle_lease_timeout : ℕ → Peer → Handled
handle_lease_timeout id row =
    cond (unexploded row.guard_held || unexploded row.promise_held) (no_action row)
    (one_action (with_held row None None) (A.LeaseTimeout id))

-- ---- the sent side

-- rule 7.8: a sent guard becomes a sent promise for the drifted 2T, and Promise is sent; without one nothing happens
abbrev pub guard_reply_on : Option Timer → ℕ → Timer → Peer → Handled
guard_reply_on None id t row = no_action row
guard_reply_on (Some u) id t row = one_action (with_sent row None (Some (t, false)) row.refresh_mark) (A.SendLeaseMsg id M.Promise)

abbrev pub handle_msg_guard_reply : ℕ → Timer → Peer → Handled
handle_msg_guard_reply id t row = guard_reply_on row.guard_sent id t row

-- rule 7.10: a sent promise that the peer does not hold goes; one that it holds starts anew for T and is marked for the next refresh, unless
-- it is exploded or being revoked
abbrev pub promise_reply_on : Option (Timer × Bool) → ℕ → Timer → Bool → Peer → Handled
promise_reply_on None id t held row = no_action row
promise_reply_on (Some (u, revoking)) id t held row =
    cond held
    (cond (revoking || is_exploded u) (no_action row) (one_action (with_sent row row.guard_sent (Some (t, false)) true) (A.NextRefresh id)))
    (one_action (with_sent row row.guard_sent None row.refresh_mark) (A.GrantRemoved id false))

abbrev pub handle_msg_promise_reply : ℕ → Timer → Bool → Peer → Handled
handle_msg_promise_reply id t held row = promise_reply_on row.promise_sent id t held row

-- rule 7.12: all that was sent to the peer goes, and GrantRemoved says what the message says, always
abbrev pub handle_msg_revoke_reply : ℕ → Bool → Peer → Handled
handle_msg_revoke_reply id held row = one_action (with_sent row None None row.refresh_mark) (A.GrantRemoved id held)

-- rule 7.13: on the sent side as on the held side
abbrev pub handle_grant_timeout : ℕ → Peer → Handled
handle_grant_timeout id row =
    cond (unexploded row.guard_sent || unexploded_grant row.promise_sent) (no_action row)
    (one_action (with_sent row None None row.refresh_mark) (A.GrantTimeout id))

-- ---- any notice about one peer

-- rule 1.3: timers started for T and for 2T; 2T is drifted as one duration
abbrev pub for_t : Term → Timer
for_t term = kicked_off term.clock term.now term.expire_timeout

abbrev pub for_2t : Term → Timer
for_2t term = kicked_off term.clock term.now (2 * term.expire_timeout)

unfoldable pub handle_msg : Term → ℕ → LeaseMsg → Peer → Handled
handle_msg term id (M.Guard bar) row = handle_msg_guard id (for_t term) bar row
handle_msg term id M.GuardReply row = handle_msg_guard_reply id (for_2t term) row
handle_msg term id M.Promise row = handle_msg_promise id (for_t term) row
handle_msg term id (M.PromiseReply held) row = handle_msg_promise_reply id (for_t term) held row
handle_msg term id M.Revoke row = handle_msg_revoke id row
handle_msg term id (M.RevokeReply held) row = handle_msg_revoke_reply id held row

unfoldable pub handle_peer_notice : Term → ℕ → PeerNotice → Peer → Handled
handle_peer_notice term id (PN.RecvLeaseMsg msg) row = handle_msg term id msg row
handle_peer_notice term id PN.GrantTimeout row = handle_grant_timeout id row
handle_peer_notice term id PN.LeaseTimeout row = handle_lease_timeout id row
