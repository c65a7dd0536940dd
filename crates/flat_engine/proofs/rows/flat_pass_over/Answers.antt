-- What a turn makes of its row is what the pass makes of it.
use Rattle.std.proofs.Common.{rules, arith, ap, ◌≡◌, ◌<◌, ◌∙◌, length, take, map}
use mathlib.Core.Path.{sym, subst}
use Rattle.std.proofs.lemmas.List.{take-append-drop, length-take-le}
use Rattle.lease.specs.Bitmaps.{capacity}
use Rattle.lease.specs.declared.Peer.{Peer}
use Rattle.lease.specs.Tables.{below}
use Rattle.lease.specs.Rows.{row_at}
use Rattle.lease.specs.Passes.{row_after, pass_over}
use Rattle.peer_rows.proofs.Turn.{item_still, put_item, none_marked, mark_more, all_marked}
use Rattle.wire.specs.FromFlat.{peer_of}
use Rattle.flat_record.specs.Sound.{blank_row}
use Rattle.flat_engine.specs.FlatRows.{flat_row_after, flat_at}
use Rattle.flat_engine.proofs.Laws.{flat-below, stands}
use Rattle.flat_engine.proofs.rows.flat_pass_over.Goals as goal

pub loop-i-init : goal.loop-i-init
unfolding below
loop-i-init g c =
    let a = c.args in
    (take-append-drop a.n a.rows.now, rw (c.none-first.ensures, c.none-second.ensures) (none_marked (g.R.Rule.pass a.rule.now) a.me a.n (map peer_of a.rows.now)))

pub visit_flat-sets-requires : goal.visit_flat-sets-requires
visit_flat-sets-requires g c =
    let l = c.loop-i in
    let a = c.args in
    let rows = a.rows.now in
    let all : length rows ≡ capacity = search rules in
    let few : length (take a.n rows) ≡ a.n = length-take-le a.n rows (rw all c.requires.n_le_capacity) in
    let inside : l.i < length l.p-items = rw l.auto.p-items c.loop-i-test.true in
    let room : l.i < length rows = search rules in
    let was : peer_of (flat_at l.p-items l.i) ≡ row_at (map peer_of rows) l.i = ap peer_of (item_still (flat_row_after (g.R.Rule.pass a.rule.now) a.me) rows blank_row l.i l.p-items a.n l.invariant.0 inside) ∙ stands rows l.i room in
    subst (λ (row : Peer). g.R.Rule.fits a.rule.now row) (sym was) (c.requires.rows_fit l.i (rw (← few) c.loop-i-test.true))

pub loop-i-preserved : goal.loop-i-preserved
loop-i-preserved g c =
    let l = c.loop-i in
    let a = c.args in
    let s = c.visit_flat-sets in
    let rows = a.rows.now in
    let pass = g.R.Rule.pass a.rule.now in
    let f = flat_row_after pass a.me in
    let inside : l.i < length l.p-items = rw l.auto.p-items c.loop-i-test.true in
    let room : l.i < length rows = search rules in
    let was : peer_of (flat_at l.p-items l.i) ≡ row_at (map peer_of rows) l.i = ap peer_of (item_still f rows blank_row l.i l.p-items a.n l.invariant.0 inside) ∙ stands rows l.i room in
    rw (c.with_id-first.ensures, c.with_id-second.ensures, c.from-count.ensures) (
      put_item f rows blank_row l.i l.p-items a.n l.invariant.0 inside room s.new.p s.ensures.row_after,
      mark_more pass a.me a.n (map peer_of rows) l.first l.second l.count l.i l.invariant.1 (peer_of (flat_at l.p-items l.i)) was s.result.first s.result.second s.ensures.first s.ensures.second,
    )

pub returns : goal.returns
unfolding pass_over
returns g c =
    let l = c.loop-i in
    let a = c.args in
    let rows = a.rows.now in
    let pass = g.R.Rule.pass a.rule.now in
    let all : length rows ≡ capacity = search rules in
    let few : length (take a.n rows) ≡ a.n = length-take-le a.n rows (rw all c.requires.n_le_capacity) in
    let e : l.i ≡ a.n = omega (arith, few, l.auto.i-end, c.loop-i-test.false) in
    record {
      rows_after = rw (l.invariant.0, e) (flat-below a.n (row_after pass a.me) rows c.requires.form);
      marks = all_marked pass a.me a.n (map peer_of rows) l.first l.second l.count l.i l.invariant.1 e;
    }
