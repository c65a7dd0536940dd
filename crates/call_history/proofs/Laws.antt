-- The calls of the code leave the record that the rules leave, so that the log theorem is theirs
-- too. Assumes nothing.
use Rattle.std.specs.Prelude.{Option, Some, Result, Ok, Err, ℕ, zero, suc, take, drop}
use lib.ListN.{set}
use native.Mathlib.Numerals.{add-one}
use Rattle.call_history.specs.declared.Answer.{Answer}
use mathlib.Core.Path.{◌≡◌, refl, ap, sym, subst, ◌∙◌}
use mathlib.Core.List.{List, [], ◌∷◌, map}
use Rattle.lease.specs.Types.{Bitmap, Reading, Clock}
use Rattle.lease.specs.declared.Answered.{Answered}
use Rattle.lease.specs.declared.Refusal.{Refusal}
use Rattle.lease.specs.declared.Lines.{Lines}
use Rattle.lease.specs.declared.LeaseNum.{LeaseNum}
use Rattle.lease.specs.declared.LeaseNotice.{LeaseNotice}
use Rattle.lease.specs.declared.Manager.{Manager}
use Rattle.lease.specs.SetUp.{setup_of}
use Rattle.lease.specs.Rules.{notice_of, grant_set_of, lease_set_of, lease_cnt_of, time_left_of}
use Rattle.lease.specs.Verdicts.{Call as RuleCall, notice, advance, quiet-start, refresh, drift, grant-set, lease-set, lease-cnt, time-left, Verdict, refused, done, lines_of, by_notice, verdict}
use native.Mathlib.Omega.{arith}
use Prim.Native.Nat.{◌+◌}
use mathlib.Core.List.{◌++◌}
use Rattle.lease.specs.Sets.{one}
use Rattle.lease.specs.declared.Line.{Line}
use Rattle.lease_log.specs.Log.{stamped, is_promise, promise_lines, journal_at, noted, Run, stepped, run_from}
use Rattle.call_history.specs.declared.Answer.TheVariants as A
use Rattle.lease_log.specs.LogTheorem.{AllTyped, run_of}
use Rattle.lease_log.specs.Program.{Chain, stop, step, Ruled, Answers}
use Rattle.reachable.proofs.Calls.{left-notice, left-advance, left-quiet, left-refresh, left-drift, left-set, left-count, left-time}
use Rattle.lease_log.proofs.LogFacts.{promise_lines-append}
use Rattle.lease_log.proofs.LogTheorem.{left-stepped}
use Rattle.lease_log.proofs.Program.{log-theorem-of-ruled}
use Rattle.call_history.specs.declared.Call.{Call}
use Rattle.call_history.specs.declared.Call.TheVariants as C
use Rattle.call_history.specs.History.{said, answer_of, after_call, after_calls, kept, promises_among, promises_in, promises_from, ProgramLogTheorem}

-- what a call of the code leaves is what the rules leave
leads : (m : Manager) (c : Call) → Ruled m (said c) (after_call m c)
leads m (C.Notice passing num x) = left-notice m num x
leads m (C.Advance passing to) = left-advance m to
leads m C.QuietStart = left-quiet m
leads m (C.Refresh set) = left-refresh m set
leads m (C.Drift x) = left-drift m x
leads m C.GrantSet = left-set m (grant_set_of m)
leads m C.LeaseSet = left-set m (lease_set_of m)
leads m C.LeaseCnt = left-count m (lease_cnt_of m)
leads m (C.TimeLeft id) = left-time m (time_left_of m id)

-- the calls make a chain of the rules
ruled : (m : Manager) (cs : List Call) → Chain Ruled m (map said cs) (after_calls m cs)
ruled m [] = stop
ruled m (c ∷ cs) = step (leads m c) (ruled (after_call m c) cs)

-- the log theorem of what the code has at the end: set-up's answer s, the record m that the calls
-- lead to, what the questions answer on it
pub ends_by_log :
    (me n t hb : ℕ) (now : Reading) (s : Answered (Unit {0})) → s ≡ setup_of me n t hb now → s.outcome ≡ Ok tt
    → (calls : List Call) → AllTyped (map said calls) → (m : Manager) → m ≡ after_calls s.manager calls
    → (g l : Result Bitmap Refusal) (k : Result ℕ Refusal) → g ≡ grant_set_of m → l ≡ lease_set_of m → k ≡ lease_cnt_of m
    → Answers me n t (run_of me n t hb now (map said calls)).journal g l k
ends_by_log me n t hb now s su ok calls f m e g l k ag al ak =
    log-theorem-of-ruled me n t hb now (ap (λ (z : Answered (Unit {0})). z.outcome) (sym su) ∙ ok) (map said calls) f m
    (subst (λ (z : Manager). Chain Ruled z (map said calls) m) (ap (λ (z : Answered (Unit {0})). z.manager) su)
    (subst (λ (z : Manager). Chain Ruled s.manager (map said calls) z) (sym e) (ruled s.manager calls)))
    g l k ag al ak

-- the log theorem of the calls of the code
pub program_log_theorem : ProgramLogTheorem
program_log_theorem me n t hb now ok calls f =
    let s = setup_of me n t hb now in
    let m = after_calls s.manager calls in
    ends_by_log me n t hb now s refl ok calls f m refl (grant_set_of m) (lease_set_of m) (lease_cnt_of m) refl refl refl

-- ---- one answer more is kept

kept-none : (answers : List Answer) → kept answers [] ≡ []
kept-none [] = refl
kept-none (a ∷ answers) = refl

kept-suc :
    (places : List (Option Answer)) (i : ℕ) (a : Answer) (answers : List Answer)
    → take (suc i) (set places i (Some a)) ++ kept answers (drop (suc i) (set places i (Some a))) ≡ take i places ++ kept (a ∷ answers) (drop i places)
kept-suc [] zero a answers = kept-none answers
kept-suc [] (suc i) a answers = kept-none answers
kept-suc (place ∷ places) zero a answers = refl
kept-suc (place ∷ places) (suc i) a answers = ap (λ (l : List (Option Answer)). place ∷ l) (kept-suc places i a answers)

pub kept_more :
    (places : List (Option Answer)) (i : ℕ) (a : Answer) (answers : List Answer)
    → take (i + 1) (set places i (Some a)) ++ kept answers (drop (i + 1) (set places i (Some a))) ≡ take i places ++ kept (a ∷ answers) (drop i places)
kept_more places i a answers = rw add-one (kept-suc places i a answers)

-- ---- the Promise lines that the calls answer are those of the log

promises-stamped : (r : Reading) (c : Clock) (l : List Line) → promise_lines (stamped r c l) ≡ promises_among l
promises-stamped r c [] = refl
promises-stamped r c (x ∷ l) = ap (λ (n : ℕ). one (is_promise x.1) + n) (promises-stamped r c l)

-- one call
module _ (r : Run) where
  by_lines : (num : LeaseNum) (x : LeaseNotice) (o : Result Lines Refusal) (m : Manager)
      → promise_lines (stepped r (notice num x) (by_notice o m)).journal.log ≡ promise_lines r.journal.log + promises_in (A.Acted o)
  by_lines num x (Err k) m = omega arith
  by_lines num x (Ok lines) m =
      let e = promise_lines-append r.journal.log (stamped r.journal.now r.journal.clock (lines_of lines)) in
      let f = promises-stamped r.journal.now r.journal.clock (lines_of lines) in
      omega arith

  -- any call but a notice
  no_lines : (c : RuleCall) → ((l : List Line) → (noted r.journal c l).log ≡ r.journal.log) → (v : Verdict)
      → promise_lines (stepped r c v).journal.log ≡ promise_lines r.journal.log + 0
  no_lines c h (refused k) = omega arith
  no_lines c h (done l m) = let e = ap promise_lines (h l) in omega arith

  one_call : (c : Call) → promise_lines (stepped r (said c) (verdict r.manager (said c))).journal.log ≡ promise_lines r.journal.log + promises_in (answer_of r.manager c)
  one_call (C.Notice passing num x) = by_lines num x (notice_of r.manager num x).outcome (notice_of r.manager num x).manager
  one_call (C.Advance passing to) = no_lines (advance to) (λ l. refl) (verdict r.manager (advance to))
  one_call C.QuietStart = no_lines quiet-start (λ l. refl) (verdict r.manager quiet-start)
  one_call (C.Refresh set) = no_lines (refresh set) (λ l. refl) (verdict r.manager (refresh set))
  one_call (C.Drift x) = no_lines (drift x) (λ l. refl) (verdict r.manager (drift x))
  one_call C.GrantSet = no_lines grant-set (λ l. refl) (verdict r.manager grant-set)
  one_call C.LeaseSet = no_lines lease-set (λ l. refl) (verdict r.manager lease-set)
  one_call C.LeaseCnt = no_lines lease-cnt (λ l. refl) (verdict r.manager lease-cnt)
  one_call (C.TimeLeft id) = no_lines (time-left id) (λ l. refl) (verdict r.manager (time-left id))

all_calls : (cs : List Call) (r : Run) → promise_lines (run_from r (map said cs)).journal.log ≡ promise_lines r.journal.log + promises_from r.manager cs
all_calls [] r = omega arith
all_calls (c ∷ cs) r =
    let next = stepped r (said c) (verdict r.manager (said c)) in
    let one = one_call r c in
    let here = ap (λ (m : Manager). promises_from m cs) (left-stepped r (said c) (verdict r.manager (said c)) ∙ sym (leads r.manager c)) in
    let rest = all_calls cs next in
    omega arith

pub counted_by_log :
    (me n t hb : ℕ) (now : Reading) (s : Answered (Unit {0})) → s ≡ setup_of me n t hb now → (calls : List Call) (k : ℕ)
    → k ≡ promises_from s.manager calls → k ≡ promise_lines (run_of me n t hb now (map said calls)).journal.log
counted_by_log me n t hb now s su calls k e =
    let all = all_calls calls (record { manager = (setup_of me n t hb now).manager; journal = journal_at now }) in
    let same = ap (λ (z : Answered (Unit {0})). promises_from z.manager calls) su in
    omega arith
