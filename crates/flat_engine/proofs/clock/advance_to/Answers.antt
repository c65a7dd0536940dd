-- What is written, and the rows after the pass.
use Rattle.flat_engine.proofs.Laws.{rows_form, advance_put}
use Rattle.flat_engine.proofs.clock.advance_to.Goals as goal

pub explode-fired-requires-clause-form : goal.explode-fired-requires-clause-form
explode-fired-requires-clause-form c = rows_form c.args.f.now c.requires.same

pub returns-clause-record_after : goal.returns-clause-record_after
returns-clause-record_after c =
    rw (c.quiet_flag-f.ensures, c.quiet_until_of-f.ensures, c.quiet_at-left.ensures, c.quiet_timer_by_flag-quiet.ensures) (advance_put c.args.f.now c.requires c.args.to c.explode-fired.new.rows c.explode-fired.ensures.rows_after)
