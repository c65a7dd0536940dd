-- A valid record fits and stays valid, and the notice's peer is one of its rows.
use Rattle.std.proofs.Common.{rules, ◌≡◌}
use Rattle.std.specs.Prelude.{Ok}
use Rattle.refusals.proofs.Laws.{fits}
use Rattle.lease.specs.Refusals.{notice_refusal}
use Rattle.engine.proofs.Laws.{notice_keeps}
use Rattle.engine.proofs.NotBefore.{has_row, notice_stays}
use Rattle.engine.proofs.due.notice_due.Goals as goal

pub run_turn-requires-clause-fits : goal.run_turn-requires-clause-fits
run_turn-requires-clause-fits c = fits c.args.m.now c.requires.valid

pub due_noticed-requires : goal.due_noticed-requires
due_noticed-requires c =
    let m = c.args.m.now in
    let a : notice_refusal m.population m.me c.args.notice ≡ Ok tt = search rules in
    has_row m c.args.notice c.requires.valid a

pub returns-clause-valid : goal.returns-clause-valid
returns-clause-valid c =
    let m = c.args.m.now in
    let a : notice_refusal m.population m.me c.args.notice ≡ Ok tt = search rules in
    rw c.run_turn.ensures.record_after (notice_keeps m c.args.num c.args.notice c.requires.valid a)

pub returns-clause-not_before : goal.returns-clause-not_before
returns-clause-not_before c = rw (c.due_noticed.ensures, c.run_turn.ensures.record_after) (notice_stays c.args.due.now c.args.m.now c.args.num c.args.notice c.requires.not_before)
