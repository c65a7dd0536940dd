-- A valid record fits and stays valid.
use Rattle.std.proofs.Common.{rules, ◌≡◌, arith}
use Rattle.std.specs.Prelude.{Ok}
use Rattle.refusals.proofs.Laws.{fits, limits}
use Rattle.lease.specs.Refusals.{advance_refusal}
use Rattle.engine.proofs.Laws.{advance_keeps}
use Rattle.engine.proofs.NotBefore.{advance_few, looked}
use Rattle.engine.proofs.due.advance_due.Goals as goal

pub overflow_cast-m : goal.overflow_cast-m
overflow_cast-m c = let few = (fits c.args.m.now c.requires.valid).few in omega arith

pub advance_to-advanced-requires : goal.advance_to-advanced-requires
advance_to-advanced-requires c = limits c.args.m.now (fits c.args.m.now c.requires.valid)

pub rows_due-requires : goal.rows_due-requires
rows_due-requires c = rw c.advance_to-advanced.ensures.record_after (advance_few c.args.m.now c.args.to c.requires.valid)

pub returns-clause-valid : goal.returns-clause-valid
returns-clause-valid c =
    let m = c.args.m.now in
    let a : advance_refusal m.now c.args.to ≡ Ok tt = search rules in
    rw c.advance_to-advanced.ensures.record_after (advance_keeps m c.args.to c.requires.valid a)

pub returns-clause-not_before : goal.returns-clause-not_before
returns-clause-not_before c = rw c.rows_due.ensures (looked c.advance_to-advanced.new.m)
