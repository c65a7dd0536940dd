-- The record that the check passes is valid, and so it fits.
use Rattle.std.proofs.Common.{sym, ◌∙◌}
use Rattle.refusals.proofs.Laws.{fits}
use Rattle.refusals.proofs.records.check_record.Goals as goal

pub returns-then-is_valid_record-clause-passed : goal.returns-then-is_valid_record-clause-passed
returns-then-is_valid_record-clause-passed c =
    let e = sym c.is_valid_record.ensures ∙ c.if-is_valid_record.true in (e, fits c.args.m.now e)
