-- The rows after the pass, written back.
use Rattle.lease.specs.Notices.{handle_clear_held}
use Rattle.lease.specs.Pass as P
use Rattle.wire.specs.FromFlat.{manager_of}
use Rattle.flat_engine.proofs.Laws.{rows_form, pass_put}
use Rattle.flat_engine.proofs.notices.handle_clear_held.Goals as goal

pub flat_pass_over-requires-clause-form : goal.flat_pass_over-requires-clause-form
flat_pass_over-requires-clause-form c = rows_form c.args.f.now c.requires.same

pub returns-clause-record_after : goal.returns-clause-record_after
unfolding handle_clear_held manager_of
returns-clause-record_after c = pass_put c.args.f.now c.requires (P.ClearHeld) c.flat_pass_over.new.rows c.flat_pass_over.ensures.rows_after
