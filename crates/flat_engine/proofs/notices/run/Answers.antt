-- Under a lower number the record stays.
use Rattle.std.proofs.Common.{rules}
use Rattle.flat_engine.proofs.Laws.{lower_stays}
use Rattle.flat_engine.proofs.notices.run.Goals as goal

pub returns-then-lt-clause-record_after : goal.returns-then-lt-clause-record_after
returns-then-lt-clause-record_after c = lower_stays c.args.f.now c.args.num c.args.notice c.requires.fits (search rules)
