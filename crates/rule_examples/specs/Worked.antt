-- Rule 20.1, the worked examples: one list of calls on the small site, and the answers that the rules give.
use Rattle.std.specs.Prelude.{List, [], ◌∷◌, false, true, pos, negsuc, None, Some, Ok}
use Rattle.lease.specs.Bitmaps.{bitmap_of}
use Rattle.lease.specs.declared.LeaseMsg.TheVariants as M
use Rattle.lease.specs.declared.LeaseAction.TheVariants as A
use Rattle.lease.specs.declared.LeaseNotice.TheVariants as N
use Rattle.lease.specs.declared.Lines.TheVariants as L
use Rattle.lease.specs.Verdicts.{quiet-start, refresh, drift, grant-set, lease-set}
use Rattle.lease.specs.Shorthands.{ms, under, start}
use Rattle.rule_examples.specs.Asks.{Ask, anew, call, look, lasts, Answer, set-up, noticed, advanced, plain, set, row, ns, Gives, say, from, to, nothing, does, sends, fired, promise_sent_row, promise_held_row}

unfoldable pub worked : List (Ask × Answer)
worked =
    -- rules 7.4, 7.8, 7.10, 8.5: NewGrants under 1 to all; GuardReply from 1 at 10 ms; PromiseReply true at 20 ms; refresh, twice
    (anew, set-up (Ok tt))
    ∷ (say 1 (N.NewGrants None None), noticed (Ok (L.Two (under 1 A.HigherNumber) (under 1 (A.BcastLeaseMsgs (bitmap_of 3 6) (M.Guard None))))))
    ∷ (to 10, fired 0 0)
    ∷ (from 1 1 M.GuardReply, sends 1 1 M.Promise)
    ∷ (look 1, row (promise_sent_row false (ms 2010)))
    ∷ (to 20, fired 0 0)
    ∷ (from 1 1 (M.PromiseReply true), does 1 (A.NextRefresh 1))
    ∷ (look 1, row (promise_sent_row true (ms 1020)))
    ∷ (call (refresh None), set (Ok (bitmap_of 3 2)))
    ∷ (look 1, row (promise_sent_row false (ms 2020)))
    ∷ (call (refresh None), set (Ok (bitmap_of 3 0)))
    -- rules 7.4, 7.5: NewGrants under 0 to nobody; DoRevoke of nothing
    ∷ (anew, set-up (Ok tt))
    ∷ (say 0 (N.NewGrants (Some (bitmap_of 3 0)) None), does 0 (A.BcastLeaseMsgs (bitmap_of 3 0) (M.Guard None)))
    ∷ (say 0 (N.DoRevoke None), nothing)
    -- rules 7.7, 7.9, 7.13, 7.1, 9.2: Guard under 1 from 2 at 5 ms with bar 7; its guard explodes at 1,005; Promise all the same; LeaseTimeout;
    -- Revoke under 0; lease set, at 2,004 and at 2,005
    ∷ (anew, set-up (Ok tt))
    ∷ (to 5, fired 0 0)
    ∷ (from 1 2 (M.Guard (Some (record { 0 = 7 }))), noticed (Ok (L.Three (under 1 A.HigherNumber) (under 1 (A.GuardAcceptBar 2 (record { 0 = 7 }))) (under 1 (A.SendLeaseMsg 2 M.GuardReply)))))
    ∷ (to 1005, fired 0 4)
    ∷ (from 1 2 M.Promise, sends 1 2 (M.PromiseReply true))
    ∷ (look 2, row (promise_held_row (ms 2005)))
    ∷ (say 1 (N.LeaseTimeout 2), nothing)
    ∷ (from 0 2 M.Revoke, sends 0 2 (M.RevokeReply false))
    ∷ (call lease-set, set (Ok (bitmap_of 3 4)))
    ∷ (to 2004, fired 0 0)
    ∷ (call lease-set, set (Ok (bitmap_of 3 4)))
    ∷ (to 2005, fired 0 4)
    ∷ (call lease-set, set (Ok (bitmap_of 3 0)))
    -- rule 7.13: GrantTimeout under 0 for 1, where there is nothing
    ∷ (anew, set-up (Ok tt))
    ∷ (say 0 (N.GrantTimeout 1), does 0 (A.GrantTimeout 1))
    -- rules 3.4, 3.5: drift 25: 1 s becomes 800,000,000 ns; -50: 2 s; -100: 100 s; 127: 440,528,634 ns
    ∷ (anew, set-up (Ok tt))
    ∷ (call (drift (Some (pos 25))), plain (Ok tt))
    ∷ (lasts 1000000000, ns 800000000)
    ∷ (anew, set-up (Ok tt))
    ∷ (call (drift (Some (negsuc 49))), plain (Ok tt))
    ∷ (lasts 1000000000, ns 2000000000)
    ∷ (anew, set-up (Ok tt))
    ∷ (call (drift (Some (negsuc 99))), plain (Ok tt))
    ∷ (lasts 1000000000, ns 100000000000)
    ∷ (anew, set-up (Ok tt))
    ∷ (call (drift (Some (pos 127))), plain (Ok tt))
    ∷ (lasts 1000000000, ns 440528634)
    -- rules 8.4, 9.1: quiet from 0; advance to 2,000
    ∷ (anew, set-up (Ok tt))
    ∷ (call quiet-start, plain (Ok tt))
    ∷ (call grant-set, set (Ok (bitmap_of 3 6)))
    ∷ (to 2000, advanced (Ok (bitmap_of 3 0, bitmap_of 3 0, Some (under 0 (A.GrantTimeout 1)))))
    ∷ []

-- The rules give these answers.
abbrev pub WorkedExamples : Type 0
WorkedExamples = Gives start worked
