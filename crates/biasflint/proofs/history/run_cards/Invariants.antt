-- The cards that are left lead from the record so far to where all lead from the first, and the Promise lines so far and those to come are all.
use Rattle.std.proofs.Common.{◌≡◌, ◌+◌, ◌*◌, ◌≤◌, drop}
use Rattle.biasflint.specs.History.{after_cards, promises_from}
use Rattle.biasflint.proofs.history.run_cards.Given as goal

abbrev pub invariant-loop-card : goal.invariant-loop-card
invariant-loop-card l =
    (after_cards l.m (drop l.card-index l.cards) ≡ after_cards l.fn.m l.cards)
    × (l.promise_lines + promises_from l.m (drop l.card-index l.cards) ≡ promises_from l.fn.m l.cards)
    × (l.promise_lines ≤ 3 * l.card-index)
