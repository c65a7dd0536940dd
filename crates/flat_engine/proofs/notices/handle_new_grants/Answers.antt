-- The rows after the pass, written back.
use Rattle.lease.specs.Notices.{handle_new_grants}
use Rattle.lease.specs.Pass as P
use Rattle.wire.specs.FromFlat.{manager_of}
use Rattle.flat_engine.proofs.Laws.{rows_form, pass_put}
use Rattle.flat_engine.proofs.notices.handle_new_grants.Goals as goal

pub flat_pass_over-marks-requires-clause-form : goal.flat_pass_over-marks-requires-clause-form
flat_pass_over-marks-requires-clause-form c = rows_form c.args.f.now c.requires.same

pub returns-clause-record_after : goal.returns-clause-record_after
unfolding handle_new_grants manager_of
returns-clause-record_after c = pass_put c.args.f.now c.requires (P.NewGrants c.args.set) c.flat_pass_over-marks.new.rows c.flat_pass_over-marks.ensures.rows_after
