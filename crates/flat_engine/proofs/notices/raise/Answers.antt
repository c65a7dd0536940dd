-- The rows, cleared below the population, written back, and the number.
use Rattle.flat_engine.proofs.Laws.{rows_form, cleared_put, raise_put, reads, raised_fits}
use Rattle.flat_engine.proofs.notices.raise.Goals as goal

pub returns-clause-record_after : goal.returns-clause-record_after
returns-clause-record_after c =
    let f = c.args.f.now in
    let s = c.flat_clear_below in
    raise_put f c.requires c.args.num s.new.rows (cleared_put f c.requires s.new.rows s.ensures.cleared (s.ensures.form (rows_form f c.requires.same)))

pub returns-clause-manager : goal.returns-clause-manager
returns-clause-manager c = reads _ _ (returns-clause-record_after c)

pub returns-clause-fits : goal.returns-clause-fits
returns-clause-fits c = raised_fits c.args.f.now _ c.args.num (returns-clause-record_after c) c.requires
