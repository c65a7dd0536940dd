-- Below the reading that is carried no timer is due, so an advance leaves the rows.
use Rattle.std.proofs.Common.{refl}
use Rattle.refusals.proofs.Laws.{fits}
use Rattle.lease.specs.Calls.{advance_to}
use Rattle.lease.specs.Rules.{advance_of}
use Rattle.engine.proofs.Laws.{advance_keeps}
use Rattle.engine.proofs.NotBefore.{nothing, rows_as_before}
use Rattle.engine.proofs.due.time_passes.Goals as goal

pub quiet_end-line-requires-clause-own_lt_population : goal.quiet_end-line-requires-clause-own_lt_population
quiet_end-line-requires-clause-own_lt_population c = (fits c.args.m.now c.requires.valid).own

pub quiet_end-line-requires-clause-population_le_capacity : goal.quiet_end-line-requires-clause-population_le_capacity
quiet_end-line-requires-clause-population_le_capacity c = (fits c.args.m.now c.requires.valid).few

pub returns-clause-answer : goal.returns-clause-answer
unfolding advance_of
returns-clause-answer c =
    let m = c.args.m.now in
    rw (c.requires.valid, c.requires.accepted, c.quiet_end-line.ensures, c.quiet_fires.ensures) (nothing c.args.due m c.args.to c.requires.valid c.requires.below c.requires.not_before)

pub returns-clause-left : goal.returns-clause-left
unfolding advance_of advance_to
returns-clause-left c =
    let m = c.args.m.now in
    rw (c.requires.valid, c.requires.accepted, c.quiet_at-m.ensures, rows_as_before c.args.due m c.args.to c.requires.valid c.requires.below c.requires.not_before) refl

pub returns-clause-valid : goal.returns-clause-valid
unfolding advance_to
returns-clause-valid c =
    let m = c.args.m.now in
    let e = rows_as_before c.args.due m c.args.to c.requires.valid c.requires.below c.requires.not_before in
    rw c.quiet_at-m.ensures (rw e at (advance_keeps m c.args.to c.requires.valid c.requires.accepted))
