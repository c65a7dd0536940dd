-- A flat record that refusal 15 lets through fits. Assumes nothing.
use Prim.Native.Nat.{◌≤◌}
use Rattle.lease.specs.Bitmaps.{capacity}
use Rattle.refusals.proofs.Laws.{fits}
use Rattle.wire.specs.declared.flat.ManagerC.{ManagerC}
use Rattle.wire.specs.FromFlat.{manager_of}
use Rattle.flat_engine.specs.FlatRows.{FlatFits, FlatSound}

pub sound_fits : (f : ManagerC) → FlatSound f → FlatFits f
sound_fits f s = record { same = s.same; fits = fits (manager_of f) s.valid }

pub few : (f : ManagerC) → FlatSound f → f.population ≤ capacity
unfolding manager_of
few f s = (fits (manager_of f) s.valid).few
