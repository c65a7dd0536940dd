-- What a turn makes of its row is what the pass makes of it.
use Rattle.std.proofs.Common.{rules, arith, ◌≡◌, ◌<◌, length, take}
use mathlib.Core.Path.{sym, subst}
use Rattle.std.proofs.lemmas.List.{take-append-drop, length-take-le}
use Rattle.lease.specs.Bitmaps.{capacity}
use Rattle.lease.specs.declared.Peer.{Peer}
use Rattle.lease.specs.Tables.{below}
use Rattle.lease.specs.Rows.{row_at, empty_row}
use Rattle.lease.specs.Passes.{row_after, pass_over}
use Rattle.peer_rows.proofs.Turn.{item_still, put_item, none_marked, mark_more, all_marked}
use Rattle.peer_rows.proofs.pass.pass_over.Goals as goal

pub loop-i-init : goal.loop-i-init
unfolding below
loop-i-init g c =
    let a = c.args in
    (take-append-drop a.n a.rows.now, rw (c.none-first.ensures, c.none-second.ensures) (none_marked (g.R.Rule.pass a.rule.now) a.me a.n a.rows.now))

pub visit_at-sets-requires : goal.visit_at-sets-requires
visit_at-sets-requires g c =
    let l = c.loop-i in
    let a = c.args in
    let peers = a.rows.now in
    let all : length peers ≡ capacity = search rules in
    let few : length (take a.n peers) ≡ a.n = length-take-le a.n peers (rw all c.requires.n_le_capacity) in
    let inside : l.i < length l.row-items = rw l.auto.row-items c.loop-i-test.true in
    let was : row_at l.row-items l.i ≡ row_at peers l.i = item_still (row_after (g.R.Rule.pass a.rule.now) a.me) peers empty_row l.i l.row-items a.n l.invariant.0 inside in
    subst (λ (row : Peer). g.R.Rule.fits a.rule.now row) (sym was) (c.requires.rows_fit l.i (rw (← few) c.loop-i-test.true))

pub loop-i-preserved : goal.loop-i-preserved
loop-i-preserved g c =
    let l = c.loop-i in
    let a = c.args in
    let s = c.visit_at-sets in
    let peers = a.rows.now in
    let pass = g.R.Rule.pass a.rule.now in
    let f = row_after pass a.me in
    let inside : l.i < length l.row-items = rw l.auto.row-items c.loop-i-test.true in
    let room : l.i < length peers = search rules in
    let was : row_at l.row-items l.i ≡ row_at peers l.i = item_still f peers empty_row l.i l.row-items a.n l.invariant.0 inside in
    rw (c.with_id-first.ensures, c.with_id-second.ensures, c.from-count.ensures) (
      put_item f peers empty_row l.i l.row-items a.n l.invariant.0 inside room s.new.row s.ensures.row_after,
      mark_more pass a.me a.n peers l.first l.second l.count l.i l.invariant.1 (row_at l.row-items l.i) was s.result.first s.result.second s.ensures.first s.ensures.second,
    )

pub returns : goal.returns
unfolding pass_over
returns g c =
    let l = c.loop-i in
    let a = c.args in
    let peers = a.rows.now in
    let all : length peers ≡ capacity = search rules in
    let few : length (take a.n peers) ≡ a.n = length-take-le a.n peers (rw all c.requires.n_le_capacity) in
    let e : l.i ≡ a.n = omega (arith, few, l.auto.i-end, c.loop-i-test.false) in
    record {
      rows_after = rw e at l.invariant.0;
      marks = all_marked (g.R.Rule.pass a.rule.now) a.me a.n peers l.first l.second l.count l.i l.invariant.1 e;
    }
