use Rattle.shift_sheet.proofs.BesideLog.{refused-skipped}
use Rattle.shift_sheet.proofs.laws.refused_card_skipped.Goals as goal

pub returns : goal.returns
returns c = refused-skipped
