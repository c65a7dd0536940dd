-- What `all` answers over the rows with their ids.
use Rattle.std.proofs.Common.{rules, tests, ◌∙◌}
use Rattle.std.proofs.lemmas.Iterator.{YieldsList-from_slice}
use Rattle.std.proofs.lemmas.Iterator.Consumers.{YieldsList-from_enumerate}
use Rattle.std.proofs.lemmas.Iterator.Search.{all_from_yields_List}
use Rattle.refusals.proofs.Laws.{all_rows}
use Rattle.refusals.proofs.records.are_valid_rows.Goals as goal

pub returns : goal.returns
returns c =
    let m = c.args.m.now in
    all_from_yields_List _ _ _ c.all.result c.all.ensures.ran (YieldsList-from_enumerate (YieldsList-from_slice m.peers cc) cc) (λ x b q k. search (rules, tests)) ∙ all_rows m.me m.population m.now m.peers (search rules)
