-- The examples of specs/Examples.antt, by computation. Assumes nothing.
use mathlib.Core.Path.{refl}
use Rattle.bitmap.specs.Sets.{ids_where, count_where}
use Rattle.bitmap.specs.Operations.{bad_size, ids_below}
use Rattle.bitmap.specs.Examples.{Sizes, OnesAbove, RangesAndLists, LentBytes}

pub sizes : Sizes
unfolding bad_size ids_where
sizes = (refl, refl, refl, refl, refl)

pub ones-above : OnesAbove
unfolding bad_size ids_where count_where
ones-above = (refl, refl, refl, refl, refl)

pub ranges-and-lists : RangesAndLists
unfolding bad_size ids_where
ranges-and-lists = (refl, refl, refl, refl, refl)

pub lent-bytes : LentBytes
unfolding bad_size count_where ids_below
lent-bytes = (refl, refl, refl)
