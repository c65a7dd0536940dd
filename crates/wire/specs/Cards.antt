-- A call from the host as six numbers, a card, and what it says (rule 13.2). Fields that a code does not name are not looked at. Each
-- definition but `is_call` is total, and is meant for cards that are calls. Definitions only.
use Rattle.std.specs.Prelude.{ℕ, ◌%◌, min, Bool, true, false, cond, eqb, leb, ℤ, Option, None, Some}
use Rattle.std.proofs.Math.IntN.{sub_ℕ}
use Rattle.lease.specs.Bitmaps.{bitmap_of}
use Rattle.lease.specs.Limits.{within}
use Rattle.lease.specs.Types.{Bitmap}
use Rattle.lease.specs.declared.Bar.{Bar}
use Rattle.lease.specs.declared.LeaseMsg.{LeaseMsg}
use Rattle.lease.specs.declared.LeaseMsg.TheVariants as M
use Rattle.lease.specs.declared.LeaseNotice.{LeaseNotice}
use Rattle.lease.specs.declared.LeaseNotice.TheVariants as N
use Rattle.wire.specs.Form.{is_flag}
use Rattle.wire.specs.declared.calls.CallC.{CallC}

-- ---- which cards are calls

-- A message's kind is 1 to 7; those of PromiseReply and RevokeReply, 5 and 7, have a flag in first.
abbrev pub is_msg : CallC → Bool
is_msg c = cond (eqb c.size 5) (is_flag c.first) (cond (eqb c.size 7) (is_flag c.first) (within 1 c.size 6))

-- A drift setting's percent, 128 above what it stands for.
unfoldable pub is_percent : ℕ → Bool
is_percent n = leb n 255

-- A drift setting's size is a flag; where it is 1, first is the percent.
abbrev pub is_drift : CallC → Bool
is_drift c = cond (eqb c.size 0) true (cond (eqb c.size 1) (is_percent c.first) false)

-- A code is 1 to 15. NewGrants has a flag in peer.
unfoldable pub is_call : CallC → Bool
is_call c =
    cond (eqb c.code 3) (is_flag c.peer)
    (cond (eqb c.code 6) (is_msg c) (cond (eqb c.code 11) (is_drift c) (within 1 c.code 15)))

-- ---- what they say

-- Size 0 is no set. A bitmap's size is a u8: one above 255 counts as 255.
unfoldable pub peer_set_of : CallC → Option Bitmap
peer_set_of c = cond (eqb c.size 0) None (Some (bitmap_of (min c.size 255) c.first))

-- NewGrants: second is an accept bar where peer is 1.
unfoldable pub accept_bar_of : CallC → Option Bar
accept_bar_of c = cond (eqb c.peer 1) (Some (record { 0 = c.second })) None

-- A message, by the kind in size. What a Guard of kind 2 carries, and held of the replies, is in first.
unfoldable pub msg_of : CallC → LeaseMsg
msg_of c =
    cond (eqb c.size 1) (M.Guard None)
    (cond (eqb c.size 2) (M.Guard (Some (record { 0 = c.first })))
    (cond (eqb c.size 3) M.GuardReply
    (cond (eqb c.size 4) M.Promise
    (cond (eqb c.size 5) (M.PromiseReply (eqb c.first 1)) (cond (eqb c.size 6) M.Revoke (M.RevokeReply (eqb c.first 1)))))))

-- A notice, by the code.
unfoldable pub lease_notice_of : CallC → LeaseNotice
lease_notice_of c =
    cond (eqb c.code 3) (N.NewGrants (peer_set_of c) (accept_bar_of c))
    (cond (eqb c.code 4) (N.DoRevoke (peer_set_of c))
    (cond (eqb c.code 5) N.ClearHeld
    (cond (eqb c.code 6) (N.RecvLeaseMsg c.peer (msg_of c))
    (cond (eqb c.code 7) (N.GrantTimeout c.peer) (N.LeaseTimeout c.peer)))))

-- Percent from 0 to 255 as -128 to 127. Of a number above 255, the remainder by 256 counts.
unfoldable pub percent_of : ℕ → ℤ
percent_of n = sub_ℕ (n % 256) 128

-- Size 0 is a true clock.
unfoldable pub drift_setting_of : CallC → Option ℤ
drift_setting_of c = cond (eqb c.size 0) None (Some (percent_of c.first))
