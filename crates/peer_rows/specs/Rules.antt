-- The pass that a rule of the code stands for: the names of specs/Pass, where the code's types have
-- the same ones. Definitions only.
use Rattle.std.specs.Prelude.{ℕ, Option}
use Rattle.lease.specs.Types.{Bitmap, Reading}
use Rattle.lease.specs.Pass.{Pass}
use Rattle.lease.specs.Pass as P

abbrev pub new_grants_pass : Option Bitmap → Pass
new_grants_pass set = P.NewGrants set

abbrev pub do_revoke_pass : Option Bitmap → Pass
do_revoke_pass set = P.DoRevoke set

abbrev pub clear_held_pass : Pass
clear_held_pass = P.ClearHeld

abbrev pub advance_pass : Reading → Pass
advance_pass to = P.Advance to

abbrev pub refresh_pass : Option Bitmap → Reading → ℕ → Pass
refresh_pass set now by = P.Refresh set now by

abbrev pub granted_pass : Pass
granted_pass = P.Granted

abbrev pub everyone_pass : Pass
everyone_pass = P.Everyone

abbrev pub leased_pass : Reading → Pass
leased_pass now = P.Leased now
