use Rattle.peer_rows.proofs.ClearingExamples.{on-the-way, not-one-fewer, not-one-more, not-one-table, not-without-mark}
use Rattle.peer_rows.proofs.laws.clearing_examples.Goals as goal

pub returns-clause-on_the_way : goal.returns-clause-on_the_way
returns-clause-on_the_way c = on-the-way

pub returns-clause-not_one_fewer : goal.returns-clause-not_one_fewer
returns-clause-not_one_fewer c = not-one-fewer

pub returns-clause-not_one_more : goal.returns-clause-not_one_more
returns-clause-not_one_more c = not-one-more

pub returns-clause-not_one_table : goal.returns-clause-not_one_table
returns-clause-not_one_table c = not-one-table

pub returns-clause-not_without_mark : goal.returns-clause-not_without_mark
returns-clause-not_without_mark c = not-without-mark
