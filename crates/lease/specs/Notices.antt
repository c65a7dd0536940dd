-- Rule 7: a notice that is not refused, on the whole record (the Rust's `run` with `handle_notice`).
use Rattle.std.specs.Prelude.{ℕ, Bool, true, false, cond, List, eqb, ltb, set, Option}
use Rattle.lease.specs.declared.Bar.{Bar}
use Rattle.bitmap.specs.declared.Bitmap.{Bitmap}
use Rattle.bitmap.specs.Bitmaps.{number}
use Rattle.lease.specs.declared.Peer.{Peer}
use Rattle.lease.specs.declared.LeaseNum.{LeaseNum}
use Rattle.lease.specs.declared.LeaseMsg.{LeaseMsg}
use Rattle.lease.specs.declared.LeaseMsg.TheVariants as M
use Rattle.lease.specs.declared.LeaseNotice.{LeaseNotice}
use Rattle.lease.specs.declared.LeaseNotice.TheVariants as N
use Rattle.lease.specs.declared.PeerNotice.{PeerNotice}
use Rattle.lease.specs.declared.PeerNotice.TheVariants as PN
use Rattle.lease.specs.declared.LeaseAction.{LeaseAction}
use Rattle.lease.specs.declared.LeaseAction.TheVariants as A
use Rattle.lease.specs.declared.Actions.{Actions}
use Rattle.lease.specs.declared.Actions.TheVariants as AS
use Rattle.lease.specs.declared.Line.{Line}
use Rattle.lease.specs.declared.Lines.{Lines}
use Rattle.lease.specs.declared.Lines.TheVariants as L
use Rattle.lease.specs.declared.Term.{Term}
use Rattle.lease.specs.declared.Handled.{Handled}
use Rattle.lease.specs.declared.Manager.{Manager}
use Rattle.lease.specs.Pass.{Pass}
use Rattle.lease.specs.Pass as P
use Rattle.lease.specs.declared.Passed.{Passed}
use Rattle.lease.specs.declared.Acted.{Acted}
use Rattle.lease.specs.declared.Accepted.{Accepted}
use Rattle.lease.specs.Rows.{row_at}
use Rattle.lease.specs.Handlers.{handle_peer_notice}
use Rattle.lease.specs.Passes.{pass_over}

-- ---- the record

abbrev pub term_of : Manager → Term
term_of m = record { clock = m.clock; now = m.now; expire_timeout = m.expire_timeout }

-- the record with another number and other rows, and with other rows alone
abbrev pub with_num : Manager → LeaseNum → List Peer → Manager
with_num m num rows =
    record {
      me = m.me;
      population = m.population;
      expire_timeout = m.expire_timeout;
      now = m.now;
      active_num = num;
      clock = m.clock;
      quiet_timer = m.quiet_timer;
      peers = rows;
    }

abbrev pub with_peers : Manager → List Peer → Manager
with_peers m rows = with_num m m.active_num rows

-- a pass over the peers of a record
abbrev pub pass_on : Manager → Pass → Passed
pass_on m pass = pass_over pass m.me m.population m.peers

-- ---- a notice under the active number

-- rules 7.7 to 7.13: a notice about one peer changes that peer's row alone
abbrev pub handled_at : Manager → ℕ → PeerNotice → Handled
handled_at m id notice = handle_peer_notice (term_of m) id notice (row_at m.peers id)

unfoldable pub on_peer : Manager → ℕ → PeerNotice → Acted
on_peer m id notice =
    record { actions = (handled_at m id notice).actions; manager = with_peers m (set m.peers id (handled_at m id notice).peer) }

-- rule 7.4: one Guard to all peers that get a fresh guard, even where there are none
unfoldable pub handle_new_grants : Manager → Option Bitmap → Option Bar → Acted
handle_new_grants m to bar =
    record {
      actions = AS.One (A.BcastLeaseMsgs (pass_on m (P.NewGrants to)).first (M.Guard bar));
      manager = with_peers m (pass_on m (P.NewGrants to)).peers;
    }

-- rule 7.5: one Revoke to all peers whose promise is being revoked, if there are any
abbrev pub revoke_to : Bitmap → Actions
revoke_to set = cond (eqb (number set) 0) AS.None (AS.One (A.BcastLeaseMsgs set M.Revoke))

unfoldable pub handle_do_revoke : Manager → Option Bitmap → Acted
handle_do_revoke m to =
    record { actions = revoke_to (pass_on m (P.DoRevoke to)).first; manager = with_peers m (pass_on m (P.DoRevoke to)).peers }

-- rule 7.6: LeaseCleared, also where nothing is held
unfoldable pub handle_clear_held : Manager → Acted
handle_clear_held m = record { actions = AS.One A.LeaseCleared; manager = with_peers m (pass_on m P.ClearHeld).peers }

unfoldable pub handle_notice : Manager → LeaseNotice → Acted
handle_notice m (N.NewGrants to bar) = handle_new_grants m to bar
handle_notice m (N.DoRevoke to) = handle_do_revoke m to
handle_notice m N.ClearHeld = handle_clear_held m
handle_notice m (N.RecvLeaseMsg id msg) = on_peer m id (PN.RecvLeaseMsg msg)
handle_notice m (N.GrantTimeout id) = on_peer m id PN.GrantTimeout
handle_notice m (N.LeaseTimeout id) = on_peer m id PN.LeaseTimeout

-- ---- the number

-- rules 7.2 and 7.3: under a higher number one pass takes all guards and promises, and the number becomes active
unfoldable pub raised_to : Manager → LeaseNum → Manager
raised_to m num = with_num m num (pass_on m P.HigherNumber).peers

-- rule 7.1: under a lower number a Revoke is answered RevokeReply{false}, and all else gives nothing
abbrev pub outdated_msg : ℕ → LeaseMsg → Actions
outdated_msg id (M.Guard bar) = AS.None
outdated_msg id M.GuardReply = AS.None
outdated_msg id M.Promise = AS.None
outdated_msg id (M.PromiseReply held) = AS.None
outdated_msg id M.Revoke = AS.One (A.SendLeaseMsg id (M.RevokeReply false))
outdated_msg id (M.RevokeReply held) = AS.None

abbrev pub outdated : LeaseNotice → Actions
outdated (N.NewGrants set bar) = AS.None
outdated (N.DoRevoke set) = AS.None
outdated N.ClearHeld = AS.None
outdated (N.RecvLeaseMsg id msg) = outdated_msg id msg
outdated (N.GrantTimeout id) = AS.None
outdated (N.LeaseTimeout id) = AS.None

-- rule 7.14: each action under the notice's number, HigherNumber first where the number was raised
abbrev pub line : LeaseNum → LeaseAction → Line
line num a = record { 0 = num; 1 = a }

abbrev pub numbered : LeaseNum → Bool → Actions → Lines
numbered num higher AS.None = cond higher (L.One (line num A.HigherNumber)) L.None
numbered num higher (AS.One a) = cond higher (L.Two (line num A.HigherNumber) (line num a)) (L.One (line num a))
numbered num higher (AS.Two a b) = cond higher (L.Three (line num A.HigherNumber) (line num a) (line num b)) (L.Two (line num a) (line num b))

abbrev pub acted_under : LeaseNum → Bool → Acted → Accepted
acted_under num higher a = record { lines = numbered num higher a.actions; manager = a.manager }

-- rules 7.1 and 7.2: under a lower number nothing changes; a higher one is taken first, and then the notice is handled
unfoldable pub accepted_of : Manager → LeaseNum → LeaseNotice → Accepted
accepted_of m num notice =
    cond (ltb num.0 m.active_num.0) (record { lines = numbered num false (outdated notice); manager = m })
    (cond (ltb m.active_num.0 num.0) (acted_under num true (handle_notice (raised_to m num) notice)) (acted_under num false (handle_notice m notice)))
