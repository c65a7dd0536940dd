-- The record, also where the call is refused.
use Rattle.std.proofs.Common.{◌∙◌}
use Rattle.lease.specs.Rules.{quiet_of}
use Rattle.lease.proofs.RuleClaims.{refusals-keep}
use Rattle.wire.specs.FromFlat.{manager_of}
use Rattle.biasflint.specs.Calls.{quiet_c}
use Rattle.biasflint.proofs.CallLaws.{plain_left}
use Rattle.biasflint.proofs.calls.quiet_c.Goals as goal

pub returns-clause-left : goal.returns-clause-left
unfolding quiet_c
returns-clause-left c =
    let f = c.args.f.now in
    let r = quiet_of (manager_of f) in
    c.assume_unknown_grants.ensures.left ∙ plain_left f c.requires.sound.same r.manager r.outcome ((refusals-keep (manager_of f)).quiet-starts)
