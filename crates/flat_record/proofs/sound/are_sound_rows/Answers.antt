-- What `all` answers over the rows with their ids.
use Rattle.std.proofs.Common.{rules, tests, ◌∙◌}
use Rattle.std.proofs.lemmas.Iterator.{YieldsList-from_slice}
use Rattle.std.proofs.lemmas.Iterator.Consumers.{YieldsList-from_enumerate}
use Rattle.std.proofs.lemmas.Iterator.Search.{all_from_yields_List}
use Rattle.flat_record.proofs.RowTests.{all-rows}
use Rattle.flat_record.proofs.sound.are_sound_rows.Goals as goal

pub returns : goal.returns
returns c =
    all_from_yields_List _ _ _ c.all.result c.all.ensures.ran (YieldsList-from_enumerate (YieldsList-from_slice c.args.f.now.peers cc) cc) (λ x b q k. search (rules, tests)) ∙ all-rows c.args.f.now (search rules)
