-- What is claimed of the calls from the host; the claim stands on a function of src/laws.rt. Statements only.
use Rattle.std.specs.Prelude.{◌≡◌, false, eqb}
use Rattle.wire.specs.declared.flat.ManagerC.{ManagerC}
use Rattle.wire.specs.declared.calls.CallC.{CallC}
use Rattle.biasflint.specs.Calls.{call_of}

-- A refused call leaves every field of the record that was lent (rule 10.31).
abbrev pub RefusedKeeps : Type 0
RefusedKeeps = (f : ManagerC) (c : CallC) → eqb (call_of f c).answer.refused 0 ≡ false → (call_of f c).manager ≡ f
