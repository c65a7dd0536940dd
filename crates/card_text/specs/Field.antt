-- What the bytes of a field are, read from the left. Definitions only.
use Rattle.std.specs.Prelude.{ℕ}

pub data Field : Type 0 where
  -- no byte but blanks
  Blank : Field
  -- the digit 0
  Zero : Field
  -- a number above 0
  Number : ℕ → Field
  -- no number of this form, and none can come of it
  Bad : Field
