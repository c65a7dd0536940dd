-- One turn more: the answer goes into its place.
use Rattle.std.proofs.Common.{◌≡◌, ◌+◌, ◌∷◌, arith, drop}
use Rattle.std.proofs.lemmas.Grind.{common_steps}
use Rattle.call_history.specs.History.{answers_from}
use Rattle.call_history.proofs.Laws.{kept_more}
use Rattle.call_history.proofs.run.Goals as goal

pub loop-place-preserved : goal.loop-place-preserved
loop-place-preserved c =
    let l = c.loop-place in
    let made = c.make-made.result in
    let next = answers_from made.manager (drop (l.place + 1) c.args.calls.now) in
    let e : made.answer ∷ next ≡ answers_from l.manager (drop l.place c.args.calls.now) = grind (arith, common_steps) in (
      grind (arith, common_steps),
      grind (arith, common_steps),
      grind (arith, common_steps),
      grind (arith, common_steps),
      rw (c.keep.ensures, kept_more l.answers l.place made.answer next, e) l.invariant.4,
    )
