-- A row that is not due stays.
use Rattle.std.proofs.Common.{rules, ◌≡◌, ◌<◌, length, arith, sym, refl, ◌∙◌}
use lib.ListN.{length-set}
use Rattle.lease.specs.Tables.{below}
use Rattle.lease.specs.Rows.{row_at, empty_row}
use Rattle.lease.specs.Passes.{pass_over, row_after}
use Rattle.peer_rows.proofs.Turn.{put_next, keep_next}
use Rattle.peer_rows.specs.Rules.{advance_pass}
use Rattle.peer_rows.proofs.NoneDue.{undue, at_due, none_due}
use Rattle.peer_rows.proofs.exploding.explode.Goals as goal
use Rattle.peer_rows.proofs.exploding.explode.Goals.{then-is_one, else-is_one}

pub returns-then-ids-eq0 : goal.returns-then-ids-eq0
returns-then-ids-eq0 c =
    let a = c.args in
    sym (none_due a.to a.me a.n a.rows.now a.due c.requires.sets c.either-ids.result c.either-ids.ensures c.if-ids-eq0.true)

pub loop-i-init : goal.loop-i-init
unfolding below
loop-i-init c = (search rules, refl)

pub loop-i-preserved : goal.loop-i-preserved
loop-i-preserved c =
    let l = c.loop-i in
    let a = c.args in
    let rows = a.rows.now in
    let ids = c.either-ids in
    let f = row_after (advance_pass a.to) a.me in
    let room : l.i < length rows = search rules in
    elim c.if-is_one.branch [
      | then-is_one w ↦
          let due = at_due a.to a.me a.n rows a.due c.requires.sets ids.result ids.ensures l.i c.loop-i-test.true (sym c.is_one.ensures ∙ w.if-is_one.true) in
          rw (w.rows-is, length-set) (l.invariant.0, put_next f rows empty_row l.i l.rows l.invariant.1 room w.explode_row.new.row (w.explode_row.ensures ∙ sym (due (row_at l.rows l.i))))
      | else-is_one w ↦
          let stays = undue a.to a.me a.n rows a.due c.requires.sets ids.result ids.ensures l.i c.loop-i-test.true (sym c.is_one.ensures ∙ w.if-is_one.false) in
          rw w.rows-is (l.invariant.0, keep_next f rows empty_row l.i l.rows l.invariant.1 room stays)
    ]

pub returns : goal.returns
unfolding pass_over
returns c =
    let l = c.loop-i in
    let e : l.i ≡ c.args.n = omega (arith, l.auto.i-end, c.loop-i-test.false) in
    rw e at l.invariant.1
