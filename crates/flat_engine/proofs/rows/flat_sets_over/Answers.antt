-- A turn puts its id in as the pass does.
use Rattle.std.proofs.Common.{rules, arith, ap, ◌≡◌, ◌<◌, ◌∙◌, length, take, map}
use Rattle.std.proofs.lemmas.List.{get_or-take, length-take-le}
use Rattle.lease.specs.Bitmaps.{capacity}
use Rattle.lease.specs.Rows.{row_at}
use Rattle.peer_rows.proofs.Turn.{none_marked, mark_more, all_marked}
use Rattle.wire.specs.FromFlat.{peer_of}
use Rattle.flat_record.specs.Sound.{blank_row}
use Rattle.flat_engine.specs.FlatRows.{flat_at}
use Rattle.flat_engine.proofs.Laws.{stands}
use Rattle.flat_engine.proofs.rows.flat_sets_over.Goals as goal

pub loop-i-init : goal.loop-i-init
loop-i-init g c = rw (c.none-first.ensures, c.none-second.ensures) (none_marked (g.L.Look.pass c.args.rule.now) c.args.me c.args.n (map peer_of c.args.rows.now))

pub loop-i-preserved : goal.loop-i-preserved
loop-i-preserved g c =
    let l = c.loop-i in
    let a = c.args in
    let s = c.look_flat-sets in
    let rows = a.rows.now in
    let all : length rows ≡ capacity = search rules in
    let few : length (take a.n rows) ≡ a.n = length-take-le a.n rows (rw all c.requires) in
    let inside : l.i < a.n = rw few at c.loop-i-test.true in
    let was : peer_of (flat_at (take a.n rows) l.i) ≡ row_at (map peer_of rows) l.i = ap peer_of (get_or-take a.n rows l.i blank_row inside) ∙ stands rows l.i (omega arith) in
    rw (c.with_id-first.ensures, c.with_id-second.ensures, c.from-count.ensures)
    (mark_more (g.L.Look.pass a.rule.now) a.me a.n (map peer_of rows) l.first l.second l.count l.i l.invariant (peer_of (flat_at (take a.n rows) l.i)) was s.result.first s.result.second s.ensures.first s.ensures.second)

pub returns : goal.returns
returns g c =
    let l = c.loop-i in
    let a = c.args in
    let rows = a.rows.now in
    let all : length rows ≡ capacity = search rules in
    let few : length (take a.n rows) ≡ a.n = length-take-le a.n rows (rw all c.requires) in
    let e : l.i ≡ a.n = omega (arith, few, l.auto.i-end, c.loop-i-test.false) in
    record { marks = all_marked (g.L.Look.pass a.rule.now) a.me a.n (map peer_of rows) l.first l.second l.count l.i l.invariant e; few = rw (← e) l.invariant.few }
