-- The examples of the pass. What is cleared is what the rules' pass leaves there. Assumes nothing.
use mathlib.Core.Path.{refl, sym, ap}
use mathlib.Core.Bool.{true≢false}
use native.Mathlib.Omega.{arith}
use Rattle.lease.specs.declared.Peer.{Peer}
use Rattle.lease.specs.Tables.{below}
use Rattle.lease.specs.Rows.{present, granted}
use Rattle.lease.specs.Passes.{pass_over}
use Rattle.peer_rows.specs.ClearingExamples.{found, OnTheWay, NotOneFewer, NotOneMore, NotOneTable, NotWithoutMark}
use Rattle.peer_rows.proofs.ClearingClaims.{rules_clear}

pub on-the-way : OnTheWay
unfolding below pass_over
on-the-way = (rules_clear 0 0 found refl, rules_clear 0 1 found refl, rules_clear 0 2 found refl, rules_clear 0 3 found refl)

pub not-one-fewer : NotOneFewer
not-one-fewer c = true≢false (ap present (c.guards_sent 2 (omega arith)))

pub not-one-more : NotOneMore
not-one-more c = true≢false (sym (ap (λ (r : Peer). present r.guard_sent) (c.rest 2 (omega arith))))

pub not-one-table : NotOneTable
not-one-table = (
  λ c. true≢false (ap granted (c.promises_sent 1 (omega arith))),
  λ c. true≢false (ap present (c.promises_held 1 (omega arith))),
)

pub not-without-mark : NotWithoutMark
not-without-mark c = true≢false (sym (c.marks 1))
