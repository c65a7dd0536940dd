-- The rows after the pass, written back.
use Rattle.lease.specs.Notices.{handle_do_revoke}
use Rattle.lease.specs.Pass as P
use Rattle.wire.specs.FromFlat.{manager_of}
use Rattle.flat_engine.proofs.Laws.{rows_form, pass_put}
use Rattle.flat_engine.proofs.notices.handle_do_revoke.Goals as goal

pub flat_pass_over-marks-requires-clause-form : goal.flat_pass_over-marks-requires-clause-form
flat_pass_over-marks-requires-clause-form c = rows_form c.args.f.now c.requires.same

pub returns-then-marks-eq0-clause-record_after : goal.returns-then-marks-eq0-clause-record_after
unfolding handle_do_revoke manager_of
returns-then-marks-eq0-clause-record_after c = pass_put c.args.f.now c.requires (P.DoRevoke c.args.set) c.flat_pass_over-marks.new.rows c.flat_pass_over-marks.ensures.rows_after

pub returns-else-marks-eq0-clause-record_after : goal.returns-else-marks-eq0-clause-record_after
unfolding handle_do_revoke manager_of
returns-else-marks-eq0-clause-record_after c = pass_put c.args.f.now c.requires (P.DoRevoke c.args.set) c.flat_pass_over-marks.new.rows c.flat_pass_over-marks.ensures.rows_after
