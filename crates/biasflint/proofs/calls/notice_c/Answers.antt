-- The record, also where the call is refused.
use Rattle.std.proofs.Common.{◌∙◌}
use Rattle.lease.specs.Rules.{notice_of}
use Rattle.lease.proofs.RuleClaims.{refusals-keep}
use Rattle.wire.specs.Cards.{lease_notice_of}
use Rattle.wire.specs.FromFlat.{manager_of}
use Rattle.biasflint.specs.Calls.{notice_c}
use Rattle.biasflint.proofs.CallLaws.{notice_left}
use Rattle.biasflint.proofs.calls.notice_c.Goals as goal

pub returns-clause-left : goal.returns-clause-left
unfolding notice_c
returns-clause-left c =
    let f = c.args.f.now in
    let r = notice_of (manager_of f) (record { 0 = c.args.c.number }) (lease_notice_of c.args.c) in
    (rw c.lease_notice_of.ensures at c.add_notice.ensures.left) ∙ notice_left f c.requires.sound.same r.manager r.outcome ((refusals-keep (manager_of f)).notices (record { 0 = c.args.c.number }) (lease_notice_of c.args.c))
