-- A valid record fits, and a notice keeps it valid.
use Rattle.std.proofs.Common.{rules, ◌≡◌}
use Rattle.refusals.proofs.Laws.{fits}
use Rattle.std.specs.Prelude.{Ok}
use Rattle.lease.specs.Refusals.{notice_refusal}
use Rattle.engine.proofs.Laws.{notice_keeps}
use Rattle.engine.proofs.valid.notice_valid.Goals as goal

pub run-requires-clause-fits : goal.run-requires-clause-fits
run-requires-clause-fits c = fits c.args.m.now c.requires

pub returns-clause-valid : goal.returns-clause-valid
returns-clause-valid c =
    let m = c.args.m.now in
    let a : notice_refusal m.population m.me c.args.notice ≡ Ok tt = search rules in
    rw c.run.ensures.record_after (notice_keeps m c.args.num c.args.notice c.requires a)
