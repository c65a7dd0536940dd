-- What a pass answers beside the rows. Definitions only.
use Rattle.std.specs.Prelude.{max}
use Rattle.std.specs.Int.Bits.{bit_or}
use Rattle.bitmap.specs.declared.Bitmap.{Bitmap}
use Rattle.lease.specs.declared.Passed.{Passed}
use Rattle.peer_rows.specs.declared.pass.Marks.{Marks}

abbrev pub marks_of : Passed → Marks
marks_of p = record { first = p.first; second = p.second; count = p.count }

-- Both sets as one, of the larger of their sizes.
abbrev pub either : Marks → Bitmap
either m = record { size = max m.first.size m.second.size; bits = bit_or m.first.bits m.second.bits }
