-- The calls that are left lead from the record so far to where all lead from the first, and answer
-- into the places that are left; and once they are typed, all are.
use Rattle.std.proofs.Common.{◌≡◌, ◌+◌, ◌*◌, ◌≤◌, ◌++◌, map, take, drop}
use Rattle.lease_log.specs.LogTheorem.{AllTyped}
use Rattle.call_history.specs.History.{said, after_calls, answers_from, kept, promises_from}
use Rattle.call_history.proofs.run.Given as goal

abbrev pub invariant-loop-place : goal.invariant-loop-place
invariant-loop-place l =
    (after_calls l.manager (drop l.place l.calls) ≡ after_calls l.fn.m l.calls)
    × (l.promise_lines + promises_from l.manager (drop l.place l.calls) ≡ promises_from l.fn.m l.calls)
    × (l.promise_lines ≤ 3 * l.place)
    × (AllTyped (map said (drop l.place l.calls)) → AllTyped (map said l.calls))
    × (take l.place l.answers ++ kept (answers_from l.manager (drop l.place l.calls)) (drop l.place l.answers) ≡ kept (answers_from l.fn.m l.calls) l.fn.answers)
