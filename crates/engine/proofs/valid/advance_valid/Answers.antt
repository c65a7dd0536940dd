-- A valid record fits, and an advance keeps it valid.
use Rattle.std.proofs.Common.{rules, ◌≡◌}
use Rattle.refusals.proofs.Laws.{fits, limits}
use Rattle.std.specs.Prelude.{Ok}
use Rattle.lease.specs.Refusals.{advance_refusal}
use Rattle.engine.proofs.Laws.{advance_keeps}
use Rattle.engine.proofs.valid.advance_valid.Goals as goal

pub advance_to-requires : goal.advance_to-requires
advance_to-requires c = limits c.args.m.now (fits c.args.m.now c.requires)

pub returns-clause-valid : goal.returns-clause-valid
returns-clause-valid c =
    let m = c.args.m.now in
    let a : advance_refusal m.now c.args.to ≡ Ok tt = search rules in
    rw c.advance_to.ensures.record_after (advance_keeps m c.args.to c.requires a)
