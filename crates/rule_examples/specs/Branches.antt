-- Rule 20.4, the branches of the rules that the worked examples and the common mistakes leave out, and records at the edge of the record
-- check (rule 5.3), each list with one claim about the whole.
use Rattle.std.specs.Prelude.{◌≡◌, map, List, [], ◌∷◌, Bool, true, false, ℕ, ◌+◌, ◌-◌, negsuc, Option, None, Some, Ok}
use Rattle.std.proofs.Math.ListN as ListN
use Rattle.lease.specs.Bitmaps.{capacity, bitmap_of}
use Rattle.lease.specs.Types.{Timer, Clock, Unarmed, Armed, Exploded}
use Rattle.lease.specs.ClockCases as K
use Rattle.lease.specs.Clocks.{plus_zero}
use Rattle.lease.specs.Drift.{quotient_of}
use Rattle.lease.specs.Timers.{max_reading, farthest}
use Rattle.lease.specs.declared.Peer.{Peer}
use Rattle.lease.specs.declared.LeaseMsg.TheVariants as M
use Rattle.lease.specs.declared.LeaseAction.TheVariants as A
use Rattle.lease.specs.declared.LeaseNotice.TheVariants as N
use Rattle.lease.specs.declared.Lines.TheVariants as L
use Rattle.lease.specs.declared.Manager.{Manager}
use Rattle.lease.specs.Rows.{empty_row, with_held, with_sent}
use Rattle.lease.specs.Notices.{with_peers}
use Rattle.lease.specs.Calls.{with_time}
use Rattle.lease.specs.RecordCheck.{record_valid}
use Rattle.lease.specs.SetUp.{fresh}
use Rattle.lease.specs.Verdicts.{quiet-start, refresh, drift, grant-set, lease-set, lease-cnt, time-left}
use Rattle.lease.specs.Shorthands.{ms, start, under}
use Rattle.rule_examples.specs.Asks.{Ask, anew, call, look, Answer, set-up, noticed, advanced, plain, set, count, left, row, Gives, say, from, to, nothing, does, sends, fired, promise_sent_row, promise_held_row}

-- A row with nothing but a guard held, and its deadline in ms; with nothing but a mark.
abbrev guard_held_row : ℕ → Answer
guard_held_row t = row (with_held empty_row (Some (Armed (ms t))) None)

abbrev marked : Answer
marked = row (with_sent empty_row None None true)

-- ---- the held side (rules 7.6, 7.7, 7.9, 7.11, 7.13, 9.2 to 9.4)

unfoldable pub held_branches : List (Ask × Answer)
held_branches =
    -- in neither table
    (anew, set-up (Ok tt))
    ∷ (from 0 2 M.Promise, sends 0 2 (M.PromiseReply false))
    ∷ (from 0 2 M.Revoke, sends 0 2 (M.RevokeReply false))
    -- a held guard, revoked; one replaced by another
    ∷ (from 0 2 (M.Guard None), sends 0 2 M.GuardReply)
    ∷ (look 2, guard_held_row 1000)
    ∷ (from 0 2 M.Revoke, sends 0 2 (M.RevokeReply false))
    ∷ (look 2, row empty_row)
    ∷ (from 0 2 (M.Guard None), sends 0 2 M.GuardReply)
    ∷ (to 400, fired 0 0)
    ∷ (from 0 2 (M.Guard (Some (record { 0 = 9 }))), noticed (Ok (L.Two (under 0 (A.GuardAcceptBar 2 (record { 0 = 9 }))) (under 0 (A.SendLeaseMsg 2 M.GuardReply)))))
    ∷ (look 2, guard_held_row 1400)
    -- a held promise, live: Guard is ignored, Promise kicks it off, a timeout does nothing
    ∷ (from 0 2 M.Promise, sends 0 2 (M.PromiseReply true))
    ∷ (look 2, row (promise_held_row (ms 1400)))
    ∷ (from 0 2 (M.Guard None), nothing)
    ∷ (call (time-left 2), left (Ok (Some 1000)))
    ∷ (call (time-left 1), left (Ok None))
    ∷ (call lease-cnt, count (Ok 2))
    ∷ (to 900, fired 0 0)
    ∷ (call (time-left 2), left (Ok (Some 500)))
    ∷ (from 0 2 M.Promise, sends 0 2 (M.PromiseReply true))
    ∷ (look 2, row (promise_held_row (ms 1900)))
    ∷ (say 0 (N.LeaseTimeout 2), nothing)
    -- exploded: no lease, Guard still ignored, Promise taken; then the timeout, twice
    ∷ (to 1900, fired 0 4)
    ∷ (call lease-cnt, count (Ok 1))
    ∷ (call (time-left 2), left (Ok (Some 0)))
    ∷ (from 0 2 (M.Guard None), nothing)
    ∷ (from 0 2 M.Promise, sends 0 2 (M.PromiseReply true))
    ∷ (look 2, row (promise_held_row (ms 2900)))
    ∷ (to 2900, fired 0 4)
    ∷ (say 0 (N.LeaseTimeout 2), does 0 (A.LeaseTimeout 2))
    ∷ (look 2, row empty_row)
    ∷ (say 0 (N.LeaseTimeout 2), does 0 (A.LeaseTimeout 2))
    -- a promise revoked; guard and promise cleared
    ∷ (from 0 2 (M.Guard None), sends 0 2 M.GuardReply)
    ∷ (from 0 2 M.Promise, sends 0 2 (M.PromiseReply true))
    ∷ (from 0 2 M.Revoke, sends 0 2 (M.RevokeReply true))
    ∷ (look 2, row empty_row)
    ∷ (from 0 1 (M.Guard None), sends 0 1 M.GuardReply)
    ∷ (from 0 2 (M.Guard None), sends 0 2 M.GuardReply)
    ∷ (from 0 2 M.Promise, sends 0 2 (M.PromiseReply true))
    ∷ (call lease-set, set (Ok (bitmap_of 3 4)))
    ∷ (say 0 N.ClearHeld, does 0 A.LeaseCleared)
    ∷ (look 1, row empty_row)
    ∷ (look 2, row empty_row)
    ∷ []

-- ---- the sent side (rules 7.4, 7.5, 7.8, 7.10, 7.12, 7.13, 8.5, 9.1)

unfoldable pub sent_branches : List (Ask × Answer)
sent_branches =
    -- replies that nobody asked for
    (anew, set-up (Ok tt))
    ∷ (from 0 1 (M.PromiseReply true), nothing)
    ∷ (from 0 1 M.GuardReply, nothing)
    ∷ (from 0 1 (M.RevokeReply true), does 0 (A.GrantRemoved 1 true))
    -- a guard to the named peer, with a bar; a timeout does nothing to it, DoRevoke drops it
    ∷ (say 0 (N.NewGrants (Some (bitmap_of 3 2)) (Some (record { 0 = 5 }))), does 0 (A.BcastLeaseMsgs (bitmap_of 3 2) (M.Guard (Some (record { 0 = 5 })))))
    ∷ (look 2, row empty_row)
    ∷ (say 0 (N.GrantTimeout 1), nothing)
    ∷ (say 0 (N.DoRevoke None), nothing)
    ∷ (look 1, row empty_row)
    -- a promise: DoRevoke of another leaves it, NewGrants skips it, a timeout does nothing to it
    ∷ (say 0 (N.NewGrants None None), does 0 (A.BcastLeaseMsgs (bitmap_of 3 6) (M.Guard None)))
    ∷ (from 0 1 M.GuardReply, sends 0 1 M.Promise)
    ∷ (say 0 (N.DoRevoke (Some (bitmap_of 3 4))), nothing)
    ∷ (look 2, row empty_row)
    ∷ (look 1, row (promise_sent_row false (ms 2000)))
    ∷ (say 0 (N.NewGrants None None), does 0 (A.BcastLeaseMsgs (bitmap_of 3 4) (M.Guard None)))
    ∷ (look 1, row (promise_sent_row false (ms 2000)))
    ∷ (say 0 (N.GrantTimeout 1), nothing)
    -- a mark outlives its promise, ended by PromiseReply false
    ∷ (from 0 1 (M.PromiseReply true), does 0 (A.NextRefresh 1))
    ∷ (look 1, row (promise_sent_row true (ms 1000)))
    ∷ (from 0 1 (M.PromiseReply false), does 0 (A.GrantRemoved 1 false))
    ∷ (look 1, marked)
    ∷ (say 0 (N.NewGrants None None), does 0 (A.BcastLeaseMsgs (bitmap_of 3 6) (M.Guard None)))
    ∷ (from 0 1 M.GuardReply, sends 0 1 M.Promise)
    ∷ (look 1, row (promise_sent_row true (ms 2000)))
    -- exploded: a true reply does nothing; refresh of another leaves the mark, refresh of all takes it and extends nothing
    ∷ (to 2000, fired 2 0)
    ∷ (from 0 1 (M.PromiseReply true), nothing)
    ∷ (call (refresh (Some (bitmap_of 3 4))), set (Ok (bitmap_of 3 0)))
    ∷ (look 1, row (with_sent empty_row None (Some (Exploded, false)) true))
    ∷ (call (refresh None), set (Ok (bitmap_of 3 0)))
    ∷ (look 1, row (with_sent empty_row None (Some (Exploded, false)) false))
    -- it is in the grant set until its timeout is handled
    ∷ (call grant-set, set (Ok (bitmap_of 3 2)))
    ∷ (say 0 (N.GrantTimeout 1), does 0 (A.GrantTimeout 1))
    ∷ (look 1, row empty_row)
    ∷ (call grant-set, set (Ok (bitmap_of 3 0)))
    -- a mark outlives its promise, ended by RevokeReply
    ∷ (say 0 (N.NewGrants None None), does 0 (A.BcastLeaseMsgs (bitmap_of 3 6) (M.Guard None)))
    ∷ (from 0 1 M.GuardReply, sends 0 1 M.Promise)
    ∷ (from 0 1 (M.PromiseReply true), does 0 (A.NextRefresh 1))
    ∷ (from 0 1 (M.RevokeReply false), does 0 (A.GrantRemoved 1 false))
    ∷ (look 1, marked)
    -- revoking: it is revoked again, a true reply does nothing, and it is still granted
    ∷ (say 0 (N.NewGrants None None), does 0 (A.BcastLeaseMsgs (bitmap_of 3 6) (M.Guard None)))
    ∷ (from 0 1 M.GuardReply, sends 0 1 M.Promise)
    ∷ (say 0 (N.DoRevoke None), does 0 (A.BcastLeaseMsgs (bitmap_of 3 2) M.Revoke))
    ∷ (say 0 (N.DoRevoke (Some (bitmap_of 3 2))), does 0 (A.BcastLeaseMsgs (bitmap_of 3 2) M.Revoke))
    ∷ (from 0 1 (M.PromiseReply true), nothing)
    ∷ (call grant-set, set (Ok (bitmap_of 3 2)))
    ∷ []

-- ---- numbers and quiet time (rules 7.1, 7.2, 8.4, 8.6)

unfoldable pub number_branches : List (Ask × Answer)
number_branches =
    -- under a higher number all four tables are empty, and what comes under an older one gives nothing but the reply to Revoke
    (anew, set-up (Ok tt))
    ∷ (from 0 2 (M.Guard None), sends 0 2 M.GuardReply)
    ∷ (from 0 2 M.Promise, sends 0 2 (M.PromiseReply true))
    ∷ (from 0 1 (M.Guard None), sends 0 1 M.GuardReply)
    ∷ (say 0 (N.NewGrants None None), does 0 (A.BcastLeaseMsgs (bitmap_of 3 6) (M.Guard None)))
    ∷ (from 0 1 M.GuardReply, sends 0 1 M.Promise)
    ∷ (say 5 (N.GrantTimeout 1), noticed (Ok (L.Two (under 5 A.HigherNumber) (under 5 (A.GrantTimeout 1)))))
    ∷ (look 1, row empty_row)
    ∷ (look 2, row empty_row)
    ∷ (from 4 2 (M.Guard None), nothing)
    ∷ (say 4 N.ClearHeld, nothing)
    ∷ (say 4 (N.GrantTimeout 1), nothing)
    ∷ (from 4 1 M.Revoke, sends 4 1 (M.RevokeReply false))
    -- quiet time for 4 s by a slow clock; started again by a true one at 3.999 s it ends at 5.999 s, and the line comes once
    ∷ (anew, set-up (Ok tt))
    ∷ (call (drift (Some (negsuc 49))), plain (Ok tt))
    ∷ (call quiet-start, plain (Ok tt))
    ∷ (call grant-set, set (Ok (bitmap_of 3 6)))
    ∷ (to 3999, fired 0 0)
    ∷ (call grant-set, set (Ok (bitmap_of 3 6)))
    ∷ (call (drift None), plain (Ok tt))
    ∷ (call quiet-start, plain (Ok tt))
    ∷ (to 4000, fired 0 0)
    ∷ (call grant-set, set (Ok (bitmap_of 3 6)))
    ∷ (to 5999, advanced (Ok (bitmap_of 3 0, bitmap_of 3 0, Some (under 0 (A.GrantTimeout 1)))))
    ∷ (call grant-set, set (Ok (bitmap_of 3 0)))
    ∷ (to 5999, fired 0 0)
    ∷ []

abbrev pub HeldBranches : Type 0
HeldBranches = Gives start held_branches

abbrev pub SentBranches : Type 0
SentBranches = Gives start sent_branches

abbrev pub NumberBranches : Type 0
NumberBranches = Gives start number_branches

-- ---- the record check (rule 5.3)

-- The small site's record with another row for an id, another clock, another quiet timer.
abbrev with_row : ℕ → Peer → Manager
with_row i r = with_peers start (ListN.set start.peers i r)

abbrev with_clock : Clock → Manager
with_clock clock = with_time start (ms 0) clock None start.peers

abbrev with_quiet : ℕ → Manager
with_quiet d = with_time start (ms 0) K.True (Some (record { 0 = d })) start.peers

-- A row with these entries on the sent side; an armed timer.
abbrev sent_row : Option Timer → Option (Timer × Bool) → Peer
sent_row guard promise = with_sent empty_row guard promise false

abbrev armed_at : ℕ → Option Timer
armed_at d = Some (Armed (record { 0 = d }))

-- The check says the same of each record of a list.
abbrev pub AllChecked : Bool → List Manager → Type 0
AllChecked good l = map record_valid l ≡ map (λ (m : Manager). good) l

-- Each is in one respect no manager's.
unfoldable pub wrong_records : List Manager
wrong_records =
    -- T, population, own id, reading
    fresh 0 3 99999999 (ms 0) ∷ fresh 0 3 10000000001 (ms 0) ∷ fresh 0 0 1000000000 (ms 0) ∷ fresh 0 (capacity + 1) 1000000000 (ms 0) ∷ fresh 3 3 1000000000 (ms 0)
    ∷ fresh 0 3 1000000000 (record { 0 = max_reading + 1 })
    -- an entry or a mark for the own id, or for an id not below the population
    ∷ with_row 0 (with_sent empty_row None None true) ∷ with_row 0 (sent_row (Some Unarmed) None) ∷ with_row 3 (with_sent empty_row None None true)
    ∷ with_row (capacity - 1) (with_held empty_row (Some Exploded) None)
    -- a peer in both tables of one side
    ∷ with_row 1 (sent_row (Some Unarmed) (Some (Exploded, false))) ∷ with_row 1 (with_held empty_row (Some Exploded) (Some Exploded))
    -- a sent guard armed or exploded; an unarmed timer in another table
    ∷ with_row 1 (sent_row (armed_at 1) None) ∷ with_row 1 (sent_row (Some Exploded) None) ∷ with_row 1 (sent_row None (Some (Unarmed, false)))
    ∷ with_row 1 (with_held empty_row (Some Unarmed) None) ∷ with_row 1 (with_held empty_row None (Some Unarmed))
    -- a deadline not above the reading, or over 3,000 s past it
    ∷ with_row 1 (promise_sent_row false (ms 0)) ∷ with_row 1 (promise_held_row (ms 0)) ∷ with_row 1 (promise_held_row (record { 0 = farthest + 1 }))
    ∷ with_row 1 (with_held empty_row (armed_at (farthest + 1)) None) ∷ with_quiet 0 ∷ with_quiet (farthest + 1)
    -- a quotient that no drift setting gives
    ∷ with_clock (K.Drifting plus_zero) ∷ []

-- Each is a manager's, at a limit.
unfoldable pub right_records : List Manager
right_records =
    fresh 0 1 100000000 (ms 0) ∷ fresh (capacity - 1) capacity 10000000000 (record { 0 = max_reading })
    ∷ with_row 1 (with_sent empty_row (Some Unarmed) None true) ∷ with_row 2 (sent_row None (Some (Exploded, true)))
    ∷ with_row 1 (promise_sent_row false (record { 0 = 1 })) ∷ with_row 2 (promise_held_row (record { 0 = farthest })) ∷ with_row 2 (with_held empty_row (Some Exploded) None)
    ∷ with_quiet 1 ∷ with_quiet farthest ∷ with_clock (K.Drifting (quotient_of (negsuc 127))) ∷ []

abbrev pub WrongRecords : Type 0
WrongRecords = AllChecked false wrong_records

abbrev pub RightRecords : Type 0
RightRecords = AllChecked true right_records
