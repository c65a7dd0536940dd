-- The record, also where set-up is refused.
use Rattle.lease.specs.SetUp.{setup_of}
use Rattle.biasflint.specs.Calls.{setup_c}
use Rattle.biasflint.proofs.CallLaws.{setup_left}
use Rattle.biasflint.proofs.calls.setup_c.Goals as goal

pub returns-clause-left : goal.returns-clause-left
unfolding setup_c
returns-clause-left c =
    let a = c.args.c in
    let r = setup_of a.peer a.size a.first a.second (record { 0 = a.number }) in
    let s = c.set_up in
    rw s.ensures.answer at (setup_left c.args.f.now s.new.f r.manager s.result s.ensures.accepted s.ensures.refused)
