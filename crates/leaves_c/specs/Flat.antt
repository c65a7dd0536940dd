-- The answers of the crates bitmap and drift as the records that cross to C: a refusal's number with zeros beside it, or 0 and the answer. Definitions only.
use Rattle.std.specs.Prelude.{ℕ, Bool, cond, Result, Ok, Err}
use Rattle.bitmap.specs.declared.Bitmap.{Bitmap}
use Rattle.bitmap.specs.declared.BitmapError.{BitmapError}
use Rattle.bitmap.specs.Operations.{bitmap_refusal_number}
use Rattle.leaves_c.specs.declared.bitmaps.SetC.{SetC}
use Rattle.leaves_c.specs.declared.bitmaps.ValueC.{ValueC}
use Rattle.drift.specs.declared.Drifted.{Drifted}
use Rattle.leaves_c.specs.declared.drifts.DriftedC.{DriftedC}

-- A set.
abbrev pub flat_set : Result Bitmap BitmapError → SetC
flat_set (Err e) = record { refused = bitmap_refusal_number e; size = 0; bits = 0 }
flat_set (Ok b) = record { refused = 0; size = b.size; bits = b.bits }

-- A flag as 1 or 0.
abbrev pub flat_flag : Result Bool BitmapError → ValueC
flat_flag (Err e) = record { refused = bitmap_refusal_number e; value = 0 }
flat_flag (Ok flag) = record { refused = 0; value = cond flag 1 0 }

-- A count.
abbrev pub flat_count : Result ℕ BitmapError → ValueC
flat_count (Err e) = record { refused = bitmap_refusal_number e; value = 0 }
flat_count (Ok n) = record { refused = 0; value = n }

-- A drifted duration and its three floats, side by side.
abbrev pub flat_drifted : Drifted → DriftedC
flat_drifted r = record { ns = r.ns; seconds = r.working.seconds; quotient = r.working.quotient; product = r.working.product }
