-- A turn takes the next id's row.
use Rattle.std.proofs.Common.{rules, ◌≡◌, ◌<◌, refl, length, take}
use native.Mathlib.Numerals.{add-one}
use Rattle.std.proofs.lemmas.List.{get_or-take, length-take-le}
use Rattle.lease.specs.Bitmaps.{capacity}
use Rattle.lease.specs.Rows.{row_at, empty_row}
use Rattle.peer_rows.specs.Due.{rows_due}
use Rattle.peer_rows.proofs.due.rows_due.Goals as goal

pub loop-row-init : goal.loop-row-init
unfolding rows_due
loop-row-init c = search rules

pub loop-row-preserved : goal.loop-row-preserved
unfolding rows_due
loop-row-preserved c =
    let l = c.loop-row in
    let peers = c.args.rows.now in
    let n = c.args.n in
    let all : length peers ≡ capacity = search rules in
    let few : length (take n peers) ≡ n = length-take-le n peers (rw all c.requires) in
    let inside : l.row-index < n = rw few at c.loop-row-test.true in
    let was : row_at (take n peers) l.row-index ≡ row_at peers l.row-index = get_or-take n peers l.row-index empty_row inside in
    rw (add-one, c.min-earliest.ensures, c.row_due.ensures, l.invariant, was) refl
