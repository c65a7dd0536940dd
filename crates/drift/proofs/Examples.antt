-- The examples of specs/Examples.antt, by computation. Assumes nothing.
use mathlib.Core.Path.{refl}
use lib.Ieee.{of_int, add, mul, div}
use Rattle.drift.specs.Drift.{drifted_at, drifted_by, product_of, ns_of, seconds_of, ratio, rate_of}
use Rattle.drift.specs.Examples.{DriftLine, Ties, NoQuotient}

pub drift-line : DriftLine
unfolding drifted_at drifted_by product_of ns_of seconds_of ratio rate_of of_int add mul div
drift-line = (refl, refl, refl, refl, refl, refl)

pub ties : Ties
unfolding ns_of
ties = (refl, refl)

pub no-quotient : NoQuotient
unfolding drifted_by product_of ns_of seconds_of of_int add mul div
no-quotient = (refl, refl, refl, refl)
