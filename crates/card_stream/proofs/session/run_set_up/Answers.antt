-- A set-up's record is valid, and no timer of it is due.
use Rattle.std.proofs.Common.{rules, ◌≡◌, ◌∙◌, sym, true}
use Rattle.std.specs.Prelude.{Ok}
use Rattle.lease.specs.SetUp.{setup_refusal}
use Rattle.lease.specs.RecordCheck.{record_valid}
use Rattle.card_stream.proofs.Sessions.{fresh_valid, fresh_not_due}
use Rattle.card_stream.proofs.session.run_set_up.Goals as goal

pub returns-clause-stays : goal.returns-clause-stays
returns-clause-stays c =
    let u = c.args.u in
    let a : setup_refusal u.me u.population u.expire_timeout u.heartbeat u.now ≡ Ok tt = search rules in
    let known : c.args.known.now.is_sound ≡ true = search rules in
    let valid = fresh_valid u.me u.population u.expire_timeout u.heartbeat u.now a in
    let started : record_valid c.fresh_manager.result ≡ true = rw c.fresh_manager.ensures valid in
    (known ∙ sym started, rw c.fresh_manager.ensures (fresh_not_due c.args.known.now.due u.me u.population u.expire_timeout u.now valid))
