-- An id more is cleared.
use Rattle.std.proofs.Common.{◌<◌, length, drop}
use lib.ListN.{length-set}
use Rattle.flat_engine.proofs.ClearingTurn.{next_cleared, next_form}
use Rattle.flat_engine.proofs.clearing.flat_clear_below.Goals as goal

pub loop-p-preserved : goal.loop-p-preserved
loop-p-preserved c =
    let l = c.loop-p in
    let s = c.clear_flat in
    let rows = c.args.rows.now in
    let behind = drop (length l.p-items) rows in
    let inside : l.p-index < length l.p-items = rw l.auto.p-items c.loop-p-test.true in
    rw length-set (next_cleared l.p-index rows l.p-items behind inside s.new.p s.ensures l.invariant.0, λ h. next_form l.p-index rows l.p-items behind inside s.new.p s.ensures (l.invariant.1 h))
