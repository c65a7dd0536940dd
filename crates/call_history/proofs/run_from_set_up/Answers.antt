-- Set-up is accepted, the calls are made, and the questions are asked.
use Rattle.std.proofs.Common.{arith}
use Rattle.std.proofs.lemmas.Grind.{common_steps}
use Rattle.call_history.proofs.Laws.{ends_by_log, counted_by_log}
use Rattle.call_history.proofs.run_from_set_up.Goals as goal

pub returns-clause-log : goal.returns-clause-log
returns-clause-log c =
    let a = c.args in
    ends_by_log a.me a.population a.t a.heartbeat a.now c.new_and_setup-start.result c.new_and_setup-start.ensures.answer (grind (arith, common_steps)) a.calls.now
    c.run-ran.ensures.typed c.run-ran.result.manager c.run-ran.ensures.manager _ _ _ c.grant_set.ensures.answer c.lease_set.ensures.answer c.lease_cnt.ensures.answer

pub returns-clause-promise_lines : goal.returns-clause-promise_lines
returns-clause-promise_lines c =
    let a = c.args in
    counted_by_log a.me a.population a.t a.heartbeat a.now c.new_and_setup-start.result c.new_and_setup-start.ensures.answer a.calls.now c.run-ran.result.promise_lines c.run-ran.ensures.promise_lines
