-- The rows after the pass, written back.
use Rattle.std.proofs.Common.{ℕ, ap, map, ◌∙◌}
use Rattle.drift.specs.Clocks.{drifted_on}
use Rattle.lease.specs.Types.{Clock}
use Rattle.lease.specs.Calls.{attempt_refresh, refresh_pass}
use Rattle.lease.specs.Pass as P
use Rattle.lease.specs.Passes.{pass_over}
use Rattle.wire.specs.Flat.{flat_row}
use Rattle.wire.specs.FromFlat.{peer_of, manager_of}
use Rattle.flat_engine.proofs.Laws.{rows_form, pass_put}
use Rattle.flat_engine.proofs.clock.refresh.Goals as goal

pub flat_pass_over-requires-clause-form : goal.flat_pass_over-requires-clause-form
flat_pass_over-requires-clause-form c = rows_form c.args.f.now c.requires.fits.same

pub returns-clause-record_after : goal.returns-clause-record_after
unfolding attempt_refresh manager_of
returns-clause-record_after c =
    let f = c.args.f.now in
    let by = c.drifted_ns-by.ensures.drifts ∙ ap (λ (k : Clock). (drifted_on k f.expire_timeout).ns) c.clock_by_flag-clock.ensures in
    pass_put f c.requires.fits (refresh_pass (manager_of f) c.args.set) c.flat_pass_over.new.rows
    (c.flat_pass_over.ensures.rows_after ∙ ap (λ (b : ℕ). map flat_row (pass_over (P.Refresh c.args.set (record { 0 = f.now }) b) f.me f.population (map peer_of f.peers)).peers) by)
