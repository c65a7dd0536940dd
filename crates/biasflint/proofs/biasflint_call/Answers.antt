-- The facts of `call_of`, at what the code answers and leaves.
use Rattle.std.proofs.Common.{◌≡◌, ◌∙◌, false, ap, subst}
use Rattle.std.specs.Prelude.{eqb}
use Rattle.wire.specs.declared.answers.AnswerC.{AnswerC}
use Rattle.biasflint.proofs.CallLaws.{refused-keeps, no-call, no-record}
use Rattle.biasflint.proofs.NumberLaws.{card-number}
use Rattle.biasflint.proofs.biasflint_call.Goals as goal

pub returns-clause-unchanged : goal.returns-clause-unchanged
returns-clause-unchanged c h =
    c.call_in_place.ensures.left ∙ refused-keeps c.args.m.now c.args.card (subst (λ (a : AnswerC). eqb a.refused 0 ≡ false) c.call_in_place.ensures.answer h)

pub returns-clause-no_call : goal.returns-clause-no_call
returns-clause-no_call c h = ap (λ (a : AnswerC). a.refused) c.call_in_place.ensures.answer ∙ no-call c.args.m.now c.args.card h

pub returns-clause-no_record : goal.returns-clause-no_record
returns-clause-no_record c h n k = ap (λ (a : AnswerC). a.refused) c.call_in_place.ensures.answer ∙ no-record c.args.m.now c.args.card h n k

pub returns-clause-number : goal.returns-clause-number
returns-clause-number c = ap (λ (a : AnswerC). a.refused) c.call_in_place.ensures.answer ∙ card-number c.args.m.now c.args.card
