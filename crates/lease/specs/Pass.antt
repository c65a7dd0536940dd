-- The passes over the ids, by name: each of rules 7.2 to 7.6, 8.1, 8.5, 9.1 and 9.2 asks for one. The code passes the rule itself.
use Rattle.std.specs.Prelude.{ℕ, Option}
use Rattle.bitmap.specs.declared.Bitmap.{Bitmap}
use Rattle.timer.specs.declared.Reading.{Reading}

pub data Pass : Type 0 where
  NewGrants : Option Bitmap → Pass
  DoRevoke : Option Bitmap → Pass
  ClearHeld : Pass
  HigherNumber : Pass
  Advance : Reading → Pass
  -- the set, the reading, and T by the clock
  Refresh : Option Bitmap → Reading → ℕ → Pass
  -- rule 9.1 outside quiet time, and in it
  Granted : Pass
  Everyone : Pass
  -- rule 9.2
  Leased : Reading → Pass
