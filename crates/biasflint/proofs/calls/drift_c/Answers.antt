-- The record, also where the call is refused.
use Rattle.std.proofs.Common.{◌∙◌}
use Rattle.lease.specs.Rules.{drift_of}
use Rattle.lease.proofs.RuleClaims.{refusals-keep}
use Rattle.wire.specs.Cards.{drift_setting_of}
use Rattle.wire.specs.FromFlat.{manager_of}
use Rattle.biasflint.specs.Calls.{drift_c}
use Rattle.biasflint.proofs.CallLaws.{plain_left}
use Rattle.biasflint.proofs.calls.drift_c.Goals as goal

pub returns-clause-left : goal.returns-clause-left
unfolding drift_c
returns-clause-left c =
    let f = c.args.f.now in
    let r = drift_of (manager_of f) (drift_setting_of c.args.c) in
    (rw c.drift_setting_of.ensures at c.set_drift.ensures.left) ∙ plain_left f c.requires.sound.same r.manager r.outcome ((refusals-keep (manager_of f)).drifts (drift_setting_of c.args.c))
