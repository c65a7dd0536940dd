-- Flat rows under a pass, and what a call on a flat record asks of it. Definitions only.
use Rattle.std.specs.Prelude.{ℕ, ◌≡◌, true, List, get_or}
use Rattle.lease.specs.Pass.{Pass}
use Rattle.lease.specs.Pass as P
use Rattle.lease.specs.Passes.{row_after}
use Rattle.lease.specs.RecordCheck.{record_valid}
use Rattle.refusals.specs.Fits.{ManagerFits}
use Rattle.wire.specs.declared.flat.PeerC.{PeerC}
use Rattle.wire.specs.declared.flat.ManagerC.{ManagerC}
use Rattle.wire.specs.Flat.{flat_row, flat_of}
use Rattle.wire.specs.FromFlat.{peer_of, manager_of}
use Rattle.flat_record.specs.Sound.{blank_row}

-- The pass that a higher number asks for.
abbrev pub higher_number_pass : Pass
higher_number_pass = P.HigherNumber

-- The flat row of an id after a pass.
abbrev pub flat_row_after : Pass → ℕ → ℕ → PeerC → PeerC
flat_row_after pass own i p = flat_row (row_after pass own i (peer_of p))

abbrev pub flat_at : List PeerC → ℕ → PeerC
flat_at rows i = get_or rows i blank_row

-- A manager's flat record, which is read back as a manager's record that fits.
pub record FlatFits (f : ManagerC) : Type 0 where
  pub same : flat_of (manager_of f) ≡ f
  pub fits : ManagerFits (manager_of f)

-- A manager's flat record, which is read back as a manager's record that the record check passes.
pub record FlatSound (f : ManagerC) : Type 0 where
  pub same : flat_of (manager_of f) ≡ f
  pub valid : record_valid (manager_of f) ≡ true
