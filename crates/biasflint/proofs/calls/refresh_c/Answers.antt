-- The record, also where the call is refused.
use Rattle.std.proofs.Common.{◌∙◌}
use Rattle.lease.specs.Rules.{refresh_of}
use Rattle.lease.proofs.RuleClaims.{refusals-keep}
use Rattle.wire.specs.Cards.{peer_set_of}
use Rattle.wire.specs.FromFlat.{manager_of}
use Rattle.biasflint.specs.Calls.{refresh_c}
use Rattle.biasflint.proofs.CallLaws.{set_left}
use Rattle.biasflint.proofs.calls.refresh_c.Goals as goal

pub returns-clause-left : goal.returns-clause-left
unfolding refresh_c
returns-clause-left c =
    let f = c.args.f.now in
    let r = refresh_of (manager_of f) (peer_set_of c.args.c) in
    (rw c.peer_set_of.ensures at c.attempt_refresh.ensures.left) ∙ set_left f c.requires.sound.same r.manager r.outcome ((refusals-keep (manager_of f)).refreshes (peer_set_of c.args.c))
