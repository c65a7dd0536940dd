-- The floats that the code writes as literals: each is a bit pattern in MIR. By computation; assumes nothing.
use mathlib.Core.Path.{◌≡◌, refl}
use lib.Ieee.{binary64, of_bits, of_int}
use Rattle.drift.specs.Drift.{float, nanos_per_sec}
use Rattle.drift.specs.Clocks.{plus_zero}

pub zero_is : of_bits binary64 0 ≡ plus_zero
unfolding of_bits
zero_is = refl

pub hundred_is : of_bits binary64 4636737291354636288 ≡ float 100
unfolding of_bits of_int
hundred_is = refl

pub billion_is : of_bits binary64 4741671816366391296 ≡ float nanos_per_sec
unfolding of_bits of_int
billion_is = refl
