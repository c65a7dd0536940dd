-- What the code's calls are to the rules, what each answers, and the record that it returns or
-- leaves. Definitions only.
use Rattle.std.specs.Prelude.{◌≡◌, ℕ, List, [], ◌∷◌, map, ◌+◌, Option, Some, Ok, Err}
use Rattle.lease.specs.Types.{Reading}
use Rattle.lease.specs.declared.Manager.{Manager}
use Rattle.lease.specs.Rules.{notice_of, advance_of, quiet_of, refresh_of, drift_of, grant_set_of, lease_set_of, lease_cnt_of, time_left_of}
use Rattle.lease.specs.SetUp.{setup_of}
use Rattle.lease.specs.Verdicts.{lines_of, Call as RuleCall, notice, advance, quiet-start, refresh, drift, grant-set, lease-set, lease-cnt, time-left}
use Rattle.lease.specs.Sets.{one}
use Rattle.lease.specs.declared.Line.{Line}
use Rattle.lease_log.specs.Log.{is_promise}
use Rattle.lease_log.specs.LogTheorem.{AllTyped, run_of}
use Rattle.lease_log.specs.Program.{Answers}
use Rattle.call_history.specs.declared.Call.{Call}
use Rattle.call_history.specs.declared.Call.TheVariants as C
use Rattle.call_history.specs.declared.Answer.{Answer}
use Rattle.call_history.specs.declared.Answer.TheVariants as A

-- By value or lent is one call to the rules (rule 8.7).
abbrev pub said : Call → RuleCall
said (C.Notice passing num x) = notice num x
said (C.Advance passing to) = advance to
said C.QuietStart = quiet-start
said (C.Refresh set) = refresh set
said (C.Drift x) = drift x
said C.GrantSet = grant-set
said C.LeaseSet = lease-set
said C.LeaseCnt = lease-cnt
said (C.TimeLeft id) = time-left id

-- What a call answers.
abbrev pub answer_of : Manager → Call → Answer
answer_of m (C.Notice passing num x) = A.Acted (notice_of m num x).outcome
answer_of m (C.Advance passing to) = A.Fired (advance_of m to).outcome
answer_of m C.QuietStart = A.Done (quiet_of m).outcome
answer_of m (C.Refresh set) = A.Set (refresh_of m set).outcome
answer_of m (C.Drift x) = A.Done (drift_of m x).outcome
answer_of m C.GrantSet = A.Set (grant_set_of m)
answer_of m C.LeaseSet = A.Set (lease_set_of m)
answer_of m C.LeaseCnt = A.Count (lease_cnt_of m)
answer_of m (C.TimeLeft id) = A.Left (time_left_of m id)

-- The record that it returns or leaves.
abbrev pub after_call : Manager → Call → Manager
after_call m (C.Notice passing num x) = (notice_of m num x).manager
after_call m (C.Advance passing to) = (advance_of m to).manager
after_call m C.QuietStart = (quiet_of m).manager
after_call m (C.Refresh set) = (refresh_of m set).manager
after_call m (C.Drift x) = (drift_of m x).manager
after_call m C.GrantSet = m
after_call m C.LeaseSet = m
after_call m C.LeaseCnt = m
after_call m (C.TimeLeft id) = m

-- The record that a list of calls leads to.
abbrev pub after_calls : Manager → List Call → Manager
after_calls m [] = m
after_calls m (c ∷ cs) = after_calls (after_call m c) cs

-- What a list of calls answers, in order.
abbrev pub answers_from : Manager → List Call → List Answer
answers_from m [] = []
answers_from m (c ∷ cs) = answer_of m c ∷ answers_from (after_call m c) cs

-- Answers put into places, as far as there are any.
abbrev pub kept : List Answer → List (Option Answer) → List (Option Answer)
kept [] places = places
kept (a ∷ answers) [] = []
kept (a ∷ answers) (place ∷ places) = Some a ∷ kept answers places

-- How many Promise lines (rule 11.2) there are among the lines of a notice, in an answer, and in
-- the answers of a list of calls.
abbrev pub promises_among : List Line → ℕ
promises_among [] = 0
promises_among (x ∷ l) = one (is_promise x.1) + promises_among l

abbrev pub promises_in : Answer → ℕ
promises_in (A.Acted (Ok lines)) = promises_among (lines_of lines)
promises_in (A.Acted (Err k)) = 0
promises_in (A.Fired r) = 0
promises_in (A.Done r) = 0
promises_in (A.Set r) = 0
promises_in (A.Count r) = 0
promises_in (A.Left r) = 0

abbrev pub promises_from : Manager → List Call → ℕ
promises_from m [] = 0
promises_from m (c ∷ cs) = promises_in (answer_of m c) + promises_from (after_call m c) cs

-- Rule 11.5: for every list of calls from every accepted set-up, what the grant set, the lease set
-- and the lease count are on the record that the calls lead to is what the log of the rules'
-- actions says. The premise is that each drift setting is an i8.
abbrev pub ProgramLogTheorem : Type 0
ProgramLogTheorem =
    (me n t heartbeat : ℕ) (now : Reading) → (setup_of me n t heartbeat now).outcome ≡ (Ok tt) → (calls : List Call) → AllTyped (map said calls)
    → let m = after_calls (setup_of me n t heartbeat now).manager calls in
    Answers me n t (run_of me n t heartbeat now (map said calls)).journal (grant_set_of m) (lease_set_of m) (lease_cnt_of m)
