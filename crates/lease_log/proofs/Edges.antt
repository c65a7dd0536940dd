-- The quiet-end line beside the log, by computation. Assumes nothing.
use mathlib.Core.Path.{refl}
use Rattle.lease.proofs.Computing.{by_the_rules}
use Rattle.lease_log.specs.Edges.{OneCounts}

pub one-counts : OneCounts
unfolding by_the_rules
one-counts =
    record { quiet-end = refl; timeout = refl; one-promise = refl; none-ended = refl; still-granted = refl; one-ended = refl; none-granted = refl }
