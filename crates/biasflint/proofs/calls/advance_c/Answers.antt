-- The record, also where the call is refused.
use Rattle.std.proofs.Common.{◌∙◌}
use Rattle.lease.specs.Rules.{advance_of}
use Rattle.lease.proofs.RuleClaims.{refusals-keep}
use Rattle.wire.specs.FromFlat.{manager_of}
use Rattle.biasflint.specs.Calls.{advance_c}
use Rattle.biasflint.proofs.CallLaws.{advance_left}
use Rattle.biasflint.proofs.calls.advance_c.Goals as goal

pub returns-clause-left : goal.returns-clause-left
unfolding advance_c
returns-clause-left c =
    let f = c.args.f.now in
    let r = advance_of (manager_of f) (record { 0 = c.args.c.number }) in
    c.advance.ensures.left ∙ advance_left f c.requires.sound.same r.manager r.outcome ((refusals-keep (manager_of f)).advances (record { 0 = c.args.c.number }))
