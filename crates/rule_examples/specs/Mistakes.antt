-- Rule 20.2, the common mistakes: one list of calls on the small site, those at which one of the four mistakes shows, and the answers that
-- the rules give.
use Rattle.std.specs.Prelude.{◌≡◌, ◌*◌, List, [], ◌∷◌, true, false, pos, None, Some, Ok}
use Rattle.lease.specs.Bitmaps.{bitmap_of}
use Rattle.lease.specs.Timers.{drifted}
use Rattle.lease.specs.Types.{Unarmed, Armed}
use Rattle.lease.specs.declared.LeaseMsg.TheVariants as M
use Rattle.lease.specs.declared.LeaseAction.TheVariants as A
use Rattle.lease.specs.declared.LeaseNotice.TheVariants as N
use Rattle.lease.specs.declared.Lines.TheVariants as L
use Rattle.lease.specs.declared.Actions.TheVariants as AS
use Rattle.lease.specs.Handlers.{handle_msg_revoke_reply}
use Rattle.lease.specs.Passes.{advance_row, refresh_row}
use Rattle.lease.specs.Calls.{clock_of}
use Rattle.lease.specs.Rows.{empty_row, with_sent}
use Rattle.lease.specs.Verdicts.{refresh, drift, grant-set}
use Rattle.lease.specs.Shorthands.{ms, start, under}
use Rattle.rule_examples.specs.Asks.{Ask, anew, call, look, Answer, set-up, noticed, plain, set, row, Gives, say, from, to, nothing, does, sends, fired, promise_sent_row}

unfoldable pub mistakes : List (Ask × Answer)
mistakes =
    -- the sent guard armed (rule 7.4): nothing fires in 100 s, a timeout finds the guard, and GuardReply is still answered
    (anew, set-up (Ok tt))
    ∷ (say 1 (N.NewGrants None None), noticed (Ok (L.Two (under 1 A.HigherNumber) (under 1 (A.BcastLeaseMsgs (bitmap_of 3 6) (M.Guard None))))))
    ∷ (look 1, row (with_sent empty_row (Some Unarmed) None false))
    ∷ (to 100000, fired 0 0)
    ∷ (say 1 (N.GrantTimeout 1), nothing)
    ∷ (from 1 1 M.GuardReply, sends 1 1 M.Promise)
    -- T drifted and doubled (rule 1.3): 2 s at 127 is 881,057,269 ns, and twice 1 s is one ns less
    ∷ (anew, set-up (Ok tt))
    ∷ (call (drift (Some (pos 127))), plain (Ok tt))
    ∷ (say 0 (N.NewGrants None None), does 0 (A.BcastLeaseMsgs (bitmap_of 3 6) (M.Guard None)))
    ∷ (from 0 1 M.GuardReply, sends 0 1 M.Promise)
    ∷ (look 1, row (promise_sent_row false (record { 0 = 881057269 })))
    -- an outdated RevokeReply read as the end of a promise (rule 7.1)
    ∷ (anew, set-up (Ok tt))
    ∷ (say 1 (N.NewGrants None None), noticed (Ok (L.Two (under 1 A.HigherNumber) (under 1 (A.BcastLeaseMsgs (bitmap_of 3 6) (M.Guard None))))))
    ∷ (from 1 1 M.GuardReply, sends 1 1 M.Promise)
    ∷ (from 0 1 (M.RevokeReply true), nothing)
    ∷ (call grant-set, set (Ok (bitmap_of 3 2)))
    -- the mark of a revoking peer kept (rule 8.5): refresh takes it, and the next promise is not refreshed by it
    ∷ (from 1 1 (M.PromiseReply true), does 1 (A.NextRefresh 1))
    ∷ (say 1 (N.DoRevoke None), does 1 (A.BcastLeaseMsgs (bitmap_of 3 2) M.Revoke))
    ∷ (look 1, row (with_sent empty_row None (Some (Armed (ms 1000), true)) true))
    ∷ (call (refresh None), set (Ok (bitmap_of 3 0)))
    ∷ (look 1, row (with_sent empty_row None (Some (Armed (ms 1000), true)) false))
    ∷ (from 1 1 (M.RevokeReply true), does 1 (A.GrantRemoved 1 true))
    ∷ (say 1 (N.NewGrants None None), does 1 (A.BcastLeaseMsgs (bitmap_of 3 6) (M.Guard None)))
    ∷ (from 1 1 M.GuardReply, sends 1 1 M.Promise)
    ∷ (call (refresh None), set (Ok (bitmap_of 3 0)))
    ∷ []

-- The rules give these answers.
abbrev pub MistakesAvoided : Type 0
MistakesAvoided = Gives start mistakes

-- What each of the four mistakes makes of one of those asks: not the answer that stands there.
pub record MistakesShow : Type 0 where
  -- a sent guard that is armed for T fires within 100 s
  pub armed_guard : (advance_row (ms 100000) (with_sent empty_row (Some (Armed (ms 1000))) None false)).first ≡ true
  -- T drifted and doubled is one ns less than 2T drifted
  pub doubled_t : 2 * drifted (clock_of (Some (pos 127))) 1000000000 ≡ 881057268
  -- an outdated RevokeReply that is taken reports an end
  pub outdated_reply : (handle_msg_revoke_reply 1 true (promise_sent_row false (ms 2000))).actions ≡ AS.One (A.GrantRemoved 1 true)
  -- a mark that is still there is taken at the refresh of the next promise
  pub kept_mark : (refresh_row (ms 0) 1000000000 true (promise_sent_row true (ms 2000))).first ≡ true
