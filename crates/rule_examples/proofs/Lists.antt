-- Each list by computation: the rules, computed, give what stands there.
use mathlib.Core.Path.{◌≡◌, refl}
use mathlib.Core.Bool.{false}
use Rattle.lease.specs.Fired.{insert_fired, sort_fired, timers_below, fired_of}
use Rattle.lease.specs.Calls.{fired_by}
use Rattle.lease.specs.RecordCheck.{record_valid}
use Rattle.lease.specs.Rules.{notice_of}
use Rattle.lease.proofs.Computing.{by_the_rules}
use Rattle.rule_examples.specs.Worked.{worked, WorkedExamples}
use Rattle.rule_examples.specs.Mistakes.{mistakes, MistakesAvoided, MistakesShow}
use Rattle.rule_examples.specs.Edges.{far_calls, far_at, call_refusals, FarReached, FarAccepted, BeyondRefused, CallRefusals, SetUpRefusals}
use Rattle.rule_examples.specs.Branches.{held_branches, sent_branches, number_branches, wrong_records, right_records, HeldBranches, SentBranches, NumberBranches, WrongRecords, RightRecords}
use Rattle.rule_examples.specs.Firing.{FiringExamples}

pub worked-examples : WorkedExamples
unfolding by_the_rules worked
worked-examples = refl

pub mistakes-avoided : MistakesAvoided
unfolding by_the_rules mistakes
mistakes-avoided = refl

pub mistakes-show : MistakesShow
unfolding by_the_rules
mistakes-show = record { armed_guard = refl; doubled_t = refl; outdated_reply = refl; kept_mark = refl }

pub far-reached : FarReached
unfolding by_the_rules far_calls
far-reached = refl

pub far-accepted : FarAccepted
unfolding by_the_rules far_calls
far-accepted = refl

beyond : record_valid (far_at 3000000000001) ≡ false
unfolding by_the_rules far_calls
beyond = refl

pub beyond-refused : BeyondRefused
unfolding notice_of
beyond-refused num x = rw beyond

pub call-refusals : CallRefusals
unfolding by_the_rules call_refusals
call-refusals = refl

pub set-up-refusals : SetUpRefusals
unfolding by_the_rules
set-up-refusals = (refl, (refl, (refl, (refl, (refl, (refl, refl))))))

pub held-branches : HeldBranches
unfolding by_the_rules held_branches
held-branches = refl

pub sent-branches : SentBranches
unfolding by_the_rules sent_branches
sent-branches = refl

pub number-branches : NumberBranches
unfolding by_the_rules number_branches
number-branches = refl

pub wrong-records : WrongRecords
unfolding by_the_rules wrong_records
wrong-records = refl

pub right-records : RightRecords
unfolding by_the_rules right_records
right-records = refl

pub firing-examples : FiringExamples
unfolding by_the_rules fired_by fired_of sort_fired insert_fired timers_below
firing-examples = (refl, (refl, (refl, refl)))
