use Rattle.lease_log.proofs.Edges.{one-counts}
use Rattle.lease_log.proofs.laws.quiet_end_line.Goals as goal

pub returns : goal.returns
returns c = record { not_logged = one-counts }
