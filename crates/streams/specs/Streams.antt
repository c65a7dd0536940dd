-- What is written where writing may fail. Definitions only.
use Rattle.std.specs.Prelude.{ℕ, List, Option}
use Rattle.std.specs.Io.{StartsWith}
use Rattle.std.specs.Io.KnownBytes.{Appends}

-- Known bytes grow by a start of bs, which may be all of them or none.
abbrev pub AppendsStart : Option (List ℕ) → Option (List ℕ) → List ℕ → Type 0
AppendsStart old new bs = (written : List ℕ) × StartsWith bs written × Appends old new written
