-- Rule 20.4, the edges: the farthest deadline that calls lead to (rule 5.4), and each refusal at its limit (rules 10.1 to 10.15).
use Rattle.std.specs.Prelude.{◌≡◌, List, [], ◌∷◌, true, false, ℕ, ◌+◌, ◌-◌, negsuc, None, Some, Ok, Err}
use Rattle.std.proofs.Math.ListN as ListN
use Rattle.lease.specs.Bitmaps.{capacity, bitmap_of}
use Rattle.lease.specs.declared.LeaseMsg.TheVariants as M
use Rattle.lease.specs.declared.LeaseAction.TheVariants as A
use Rattle.lease.specs.declared.LeaseNum.{LeaseNum}
use Rattle.lease.specs.declared.LeaseNotice.{LeaseNotice}
use Rattle.lease.specs.declared.LeaseNotice.TheVariants as N
use Rattle.lease.specs.declared.Manager.{Manager}
use Rattle.lease.specs.declared.Refusal.TheVariants as R
use Rattle.lease.specs.Rows.{row_at}
use Rattle.lease.specs.Notices.{with_peers}
use Rattle.lease.specs.RecordCheck.{record_valid}
use Rattle.lease.specs.SetUp.{setup_of}
use Rattle.lease.specs.Rules.{notice_of}
use Rattle.lease.specs.Verdicts.{Call, notice, refresh, drift, time-left, verdict}
use Rattle.lease.specs.Shorthands.{ms, start, no}
use Rattle.rule_examples.specs.Asks.{Ask, call, Answer, noticed, advanced, set, left, Gives, next, say, from, to-ns, does, fired, promise_sent_row}

-- ---- 3,000 s (rules 5.3 and 5.4)

-- The record after a list of calls.
abbrev pub after : Manager → List Call → Manager
after m [] = m
after m (c ∷ l) = after (next m (verdict m c)) l

-- A mark from number 1, a promise under number 2, and a refresh, all at reading 0 with T = 10 s and drift -100.
unfoldable pub far_calls : List Call
far_calls =
    drift (Some (negsuc 99)) ∷ notice (no 1) (N.NewGrants None None) ∷ notice (no 1) (N.RecvLeaseMsg 1 M.GuardReply)
    ∷ notice (no 1) (N.RecvLeaseMsg 1 (M.PromiseReply true)) ∷ notice (no 2) (N.NewGrants None None) ∷ notice (no 2) (N.RecvLeaseMsg 1 M.GuardReply)
    ∷ refresh None ∷ []

abbrev pub far_manager : Manager
far_manager = after (setup_of 0 2 10000000000 0 (ms 0)).manager far_calls

-- The record with the deadline of the promise sent to 1 at so many ns.
abbrev pub far_at : ℕ → Manager
far_at d = with_peers far_manager (ListN.set far_manager.peers 1 (promise_sent_row false (record { 0 = d })))

-- Exactly 3,000 s past the reading is reached and accepted; one ns more is refused with 15.
abbrev pub FarReached : Type 0
FarReached = row_at far_manager.peers 1 ≡ promise_sent_row false (record { 0 = 3000000000000 })

abbrev pub FarAccepted : Type 0
FarAccepted = record_valid (far_at 3000000000000) ≡ true

abbrev pub BeyondRefused : Type 0
BeyondRefused = (num : LeaseNum) (x : LeaseNotice) → notice_of (far_at 3000000000001) num x ≡ record { outcome = Err R.InvalidRecord; manager = far_at 3000000000001 }

-- ---- the refusals, each at its limit (rules 10.1 to 10.12)

-- A refused notice under 1 does not raise the number: the one under 0 is handled.
unfoldable pub call_refusals : List (Ask × Answer)
call_refusals =
    (from 1 3 M.Promise, noticed (Err R.PeerNotBelowPopulation))
    ∷ (say 1 (N.GrantTimeout 300), noticed (Err R.PeerNotBelowPopulation))
    ∷ (say 1 (N.LeaseTimeout 0), noticed (Err R.PeerIsOwn))
    ∷ (call (time-left 3), left (Err R.PeerNotBelowPopulation))
    ∷ (call (time-left 0), left (Err R.PeerIsOwn))
    ∷ (say 1 (N.NewGrants (Some (bitmap_of 2 0)) None), noticed (Err R.SetSizeNotPopulation))
    ∷ (say 1 (N.DoRevoke (Some (bitmap_of 0 0))), noticed (Err R.SetSizeNotPopulation))
    ∷ (say 0 (N.NewGrants (Some (bitmap_of 3 0)) None), does 0 (A.BcastLeaseMsgs (bitmap_of 3 0) (M.Guard None)))
    ∷ (call (refresh (Some (bitmap_of 0 0))), set (Err R.SetSizeOutOfRange))
    ∷ (call (refresh (Some (bitmap_of (capacity + 1) 0))), set (Err R.SetSizeOutOfRange))
    ∷ (call (refresh (Some (bitmap_of capacity 0))), set (Ok (bitmap_of 3 0)))
    ∷ (to-ns 9223372036854775808, advanced (Err R.ReadingTooHigh))
    ∷ (to-ns 9223372036854775807, fired 0 0)
    ∷ (to-ns 9223372036854775806, advanced (Err R.ReadingBelowPresent))
    ∷ (to-ns 9223372036854775807, fired 0 0)
    ∷ []

abbrev pub CallRefusals : Type 0
CallRefusals = Gives start call_refusals

-- Rule 10.30: set-up's refusals in their order, each with all later ones due as well.
abbrev pub SetUpRefusals : Type 0
SetUpRefusals =
    ((setup_of 0 0 99999999 50000000 (record { 0 = 9223372036854775808 })).outcome ≡ Err R.TimeoutOutOfRange)
    × (((setup_of 0 0 10000000001 0 (record { 0 = 0 })).outcome ≡ Err R.TimeoutOutOfRange)
    × (((setup_of 0 0 100000000 50000000 (record { 0 = 9223372036854775808 })).outcome ≡ Err R.HeartbeatTooSlow)
    × (((setup_of (capacity + 1) (capacity + 1) 100000000 49999999 (record { 0 = 9223372036854775808 })).outcome ≡ Err R.PopulationOutOfRange)
    × (((setup_of capacity capacity 100000000 49999999 (record { 0 = 9223372036854775808 })).outcome ≡ Err R.OwnNotBelowPopulation)
    × (((setup_of (capacity - 1) capacity 100000000 49999999 (record { 0 = 9223372036854775808 })).outcome ≡ Err R.ReadingTooHigh)
    × ((setup_of (capacity - 1) capacity 10000000000 0 (record { 0 = 9223372036854775807 })).outcome ≡ (Ok tt)))))))
