-- What is refused by the host library itself.
use Rattle.std.proofs.Common.{rules, ◌≡◌, ◌&&◌, ◌∙◌, ap, sym, true, false}
use borrow.Author.Tests.{ne_eqb}
use Rattle.lease.specs.RecordCheck.{record_valid}
use Rattle.wire.specs.Form.{is_record}
use Rattle.wire.specs.FromFlat.{manager_of}
use Rattle.wire.specs.Cards.{is_call}
use Rattle.biasflint.specs.Calls.{kept}
use Rattle.biasflint.specs.declared.rules.CalledC.{CalledC}
use Rattle.biasflint.proofs.CallLaws.{no-call-is, no-record-is}
use Rattle.biasflint.proofs.call_in_place.Goals as goal

pub returns-then-not-is_call-clause-answer : goal.returns-then-not-is_call-clause-answer
unfolding kept
returns-then-not-is_call-clause-answer c =
    let e : is_call c.args.c ≡ false = search rules in
    c.refuse.ensures ∙ ap (λ (r : CalledC). r.answer) (sym (no-call-is c.args.f.now c.args.c e))

pub returns-then-not-is_call-clause-left : goal.returns-then-not-is_call-clause-left
unfolding kept
returns-then-not-is_call-clause-left c =
    let e : is_call c.args.c ≡ false = search rules in
    ap (λ (r : CalledC). r.manager) (sym (no-call-is c.args.f.now c.args.c e))

pub returns-then-not-is_sound-clause-answer : goal.returns-then-not-is_sound-clause-answer
unfolding kept
returns-then-not-is_sound-clause-answer c =
    let f = c.args.f.now in
    let e : is_call c.args.c ≡ true = search rules in
    let s : (is_record f && record_valid (manager_of f)) ≡ false = search rules in
    (rw c.from.ensures at c.refuse-then-not-is_sound.ensures) ∙ ap (λ (r : CalledC). r.answer) (sym (no-record-is f c.args.c e (ne_eqb c.args.c.code 1 c.if-c-eq1.false) s))

pub returns-then-not-is_sound-clause-left : goal.returns-then-not-is_sound-clause-left
unfolding kept
returns-then-not-is_sound-clause-left c =
    let f = c.args.f.now in
    let e : is_call c.args.c ≡ true = search rules in
    let s : (is_record f && record_valid (manager_of f)) ≡ false = search rules in
    ap (λ (r : CalledC). r.manager) (sym (no-record-is f c.args.c e (ne_eqb c.args.c.code 1 c.if-c-eq1.false) s))
