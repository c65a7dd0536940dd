-- Two digits more; then the first two, or the one that has room.
use Rattle.std.proofs.Common.{◌∙◌, ◌<◌, ◌-◌, ◌/◌, ◌%◌, arith}
use Rattle.card_text.specs.Columns.{digit}
use Rattle.card_text.proofs.Places.{pair_put, first_put, one_put, none_put, left_blank}
use Rattle.card_text.proofs.columns.put_digits.Goals.{then-loop-rest-test+else-i-ge2, else-loop-rest-test}
use Rattle.card_text.proofs.columns.put_digits.Goals as goal

pub loop-rest-preserved : goal.loop-rest-preserved
loop-rest-preserved c =
    let l = c.loop-rest in
    let k = l.i - 2 in
    let inv = l.invariant in
    record {
      within = omega (arith, inv.within);
      blank = rw c.put_pair.ensures (left_blank l.out l.i k (digit (l.rest / 10 % 10)) (digit (l.rest % 10)) (omega arith) inv.blank);
      put = rw c.put_pair.ensures (pair_put l.out l.i k l.rest (omega arith) inv.within c.loop-rest-test.true ∙ inv.put);
    }

pub returns-then-i-ge2-2 : goal.returns-then-i-ge2-2
returns-then-i-ge2-2 c =
    let l = c.loop-rest in
    let inv = l.invariant in
    let two : l.rest < 100 = elim c.loop-rest-test.branch [ then-loop-rest-test+else-i-ge2 w ↦ omega (arith, w.if-i-ge2.false, c.if-i-ge2-2.true) | else-loop-rest-test w ↦ omega (arith, w.loop-rest-test.false) ] in
    c.put_first_pair.ensures ∙ first_put l.out l.i (l.i - 2) l.rest (omega arith) inv.within inv.blank two ∙ inv.put

pub returns-then-i-eq1 : goal.returns-then-i-eq1
returns-then-i-eq1 c =
    let l = c.loop-rest in
    let inv = l.invariant in
    rw c.digit.ensures (one_put l.out l.i l.rest c.if-i-eq1.true inv.within ∙ inv.put)

pub returns-else-i-eq1 : goal.returns-else-i-eq1
returns-else-i-eq1 c =
    let l = c.loop-rest in
    none_put l.out l.i l.rest (omega (arith, c.if-i-ge2-2.false, c.if-i-eq1.false)) ∙ l.invariant.put
