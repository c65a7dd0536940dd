-- A peer's row goes behind those of the ids before it; the own id has none.
use Rattle.std.proofs.Common.{◌≡◌, ◌≤◌, ◌-◌, ◌∙◌, ap, refl, subst, arith, length, length-append, take, drop}
use lib.ListN.{length-take}
use Rattle.std.proofs.lemmas.List.{get_or-take}
use Rattle.card_text.specs.Lines.{laid}
use Rattle.card_text.proofs.LineText.{laid_behind}
use Rattle.lease.specs.Rows.{row_at, empty_row}
use Rattle.shift_sheet.specs.Sheet.{peer_row, rows_below, row_text, rows_text}
use Rattle.shift_sheet.proofs.Text.{own_skipped, row_more}
use Rattle.shift_sheet.proofs.rows.put_peers.Goals.{then-i-m, else-i-m}
use Rattle.shift_sheet.proofs.rows.put_peers.Goals as goal

pub loop-i-preserved : goal.loop-i-preserved
loop-i-preserved c =
    let l = c.loop-i in
    let m = c.args.m.now in
    let before = rows_text (rows_below m l.i) in
    let few : length (take m.population m.peers) ≤ m.population = rw length-take (omega arith) in
    elim c.if-i-m.branch [
      | then-i-m w ↦
          let e = w.put_row-written in
          let row = row_text (peer_row m.now l.i (row_at m.peers l.i)) in
          let more = row_more m l.i w.if-i-m.true in
          let text : row_text w.peer_row.result ≡ row = ap row_text (w.peer_row.ensures ∙ ap (peer_row m.now l.i) (get_or-take m.population m.peers l.i empty_row (omega (arith, c.loop-i-test.true, few)))) in
          rw more (
            rw (w.written-is, length-append before row, l.invariant.0, e.ensures.value, text) refl,
            w.out-is ∙ laid_behind before row c.args.out.now l.out e.new.out l.written l.invariant.0 l.invariant.1 (subst (λ x. e.new.out ≡ laid x (take (length l.out - l.written) (drop l.written l.out))) text e.ensures.out_after),
          )
      | else-i-m w ↦
          let same = own_skipped m l.i w.if-i-m.false in
          rw same (w.written-is ∙ l.invariant.0, w.out-is ∙ l.invariant.1)
    ]
