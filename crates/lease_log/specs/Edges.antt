-- The quiet-end line (rule 8.4) beside the log (rule 11.1): of two equal lines one counts. Statements only.
use Rattle.std.specs.Prelude.{◌≡◌, List, [], ◌∷◌, None, Some, Ok}
use Rattle.lease.specs.Bitmaps.{bitmap_of}
use Rattle.lease.specs.declared.LeaseMsg.TheVariants as M
use Rattle.lease.specs.declared.LeaseAction.TheVariants as A
use Rattle.lease.specs.declared.LeaseNotice.TheVariants as N
use Rattle.lease.specs.declared.Lines.TheVariants as L
use Rattle.lease.specs.Calls.{sets_of}
use Rattle.lease.specs.Shorthands.{ms, no, under}
use Rattle.lease.specs.Rules.{notice_of, advance_of, grant_set_of}
use Rattle.lease.specs.Verdicts.{Call, notice, advance, quiet-start}
use Rattle.lease_log.specs.Log.{Run, promise_lines, ended_lines}
use Rattle.lease_log.specs.LogTheorem.{run_of}

-- The rules over a list of calls from the small site's set-up.
abbrev pub small_run : List Call → Run
small_run calls = run_of 0 3 1000000000 0 (ms 0) calls

-- ---- the quiet-end line

-- A promise to 1 under number 0, and quiet time, both over at 2 s.
abbrev pub before_end : Run
before_end = small_run (notice (no 0) (N.NewGrants None None) ∷ notice (no 0) (N.RecvLeaseMsg 1 M.GuardReply) ∷ quiet-start ∷ [])

abbrev pub after_end : Run
after_end =
    small_run (notice (no 0) (N.NewGrants None None) ∷ notice (no 0) (N.RecvLeaseMsg 1 M.GuardReply) ∷ quiet-start ∷ advance (ms 2000) ∷ [])

abbrev pub after_timeout : Run
after_timeout =
    small_run
    (notice (no 0) (N.NewGrants None None) ∷ notice (no 0) (N.RecvLeaseMsg 1 M.GuardReply) ∷ quiet-start ∷ advance (ms 2000)
    ∷ notice (no 0) (N.GrantTimeout 1) ∷ [])

-- The advance gives (0, GrantTimeout 1), and so does the notice that follows. The first is no line of the log, and 1 stays in the grant
-- set; the second ends the promise.
pub record OneCounts : Type 0 where
  pub quiet-end : sets_of (advance_of before_end.manager (ms 2000)).outcome ≡ Ok (bitmap_of 3 2, bitmap_of 3 0, Some (under 0 (A.GrantTimeout 1)))
  pub timeout : (notice_of after_end.manager (no 0) (N.GrantTimeout 1)).outcome ≡ Ok (L.One (under 0 (A.GrantTimeout 1)))
  pub one-promise : promise_lines after_end.journal.log ≡ 1
  pub none-ended : ended_lines after_end.journal.log ≡ 0
  pub still-granted : grant_set_of after_end.manager ≡ Ok (bitmap_of 3 2)
  pub one-ended : ended_lines after_timeout.journal.log ≡ 1
  pub none-granted : grant_set_of after_timeout.manager ≡ Ok (bitmap_of 3 0)
