-- Set-up was accepted, the cards were handed in, and the questions were asked.
use Rattle.biasflint.proofs.CardHistory.{ends-by-log, ends-where, accepted-is, refused-is, refused-leaves}
use Rattle.biasflint.proofs.history.run_from_set_up.Goals as goal

pub returns-then-answer-ne0-clause-accepted : goal.returns-then-answer-ne0-clause-accepted
returns-then-answer-ne0-clause-accepted c =
    let s = c.biasflint_call-answer in refused-is c.args.m.now s.new.m c.args.set_up s.result (s.ensures.answer, s.ensures.left) c.if-set_up-ne1.false c.if-answer-ne0.true

pub returns-then-answer-ne0-clause-unchanged : goal.returns-then-answer-ne0-clause-unchanged
returns-then-answer-ne0-clause-unchanged c =
    let s = c.biasflint_call-answer in refused-leaves c.args.m.now s.new.m c.args.set_up s.result (s.ensures.answer, s.ensures.left) c.if-set_up-ne1.false c.if-answer-ne0.true

pub returns-clause-log : goal.returns-clause-log
returns-clause-log c =
    let s = c.biasflint_call-answer in
    let r = c.run_cards-promise_lines in
    ends-by-log c.args.m.now s.new.m r.new.m c.ask.new.m c.ask-2.new.m c.ask-3.new.m c.args.set_up s.result c.ask.result c.ask-2.result c.ask-3.result c.args.cards.now r.result
    (s.ensures.answer, s.ensures.left) c.if-set_up-ne1.false c.if-answer-ne0.false r.ensures.left r.ensures.promise_lines (c.ask.ensures.answer, c.ask.ensures.left) (c.ask-2.ensures.answer, c.ask-2.ensures.left) (c.ask-3.ensures.answer, c.ask-3.ensures.left)

pub returns-clause-left : goal.returns-clause-left
returns-clause-left c =
    let s = c.biasflint_call-answer in
    let r = c.run_cards-promise_lines in
    ends-where c.args.m.now s.new.m r.new.m c.ask.new.m c.ask-2.new.m c.ask-3.new.m c.args.set_up s.result c.ask.result c.ask-2.result c.ask-3.result c.args.cards.now r.result
    (s.ensures.answer, s.ensures.left) c.if-set_up-ne1.false c.if-answer-ne0.false r.ensures.left r.ensures.promise_lines (c.ask.ensures.answer, c.ask.ensures.left) (c.ask-2.ensures.answer, c.ask-2.ensures.left) (c.ask-3.ensures.answer, c.ask-3.ensures.left)

pub returns-clause-accepted : goal.returns-clause-accepted
returns-clause-accepted c =
    let s = c.biasflint_call-answer in accepted-is c.args.m.now s.new.m c.args.set_up s.result (s.ensures.answer, s.ensures.left) c.if-set_up-ne1.false c.if-answer-ne0.false
