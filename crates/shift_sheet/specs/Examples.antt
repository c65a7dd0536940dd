-- Sheets of the rules' run (rule 20.1): the small site, population 1, and what no card can reach, quiet time and a drifting clock. Statements
-- only.
use Rattle.std.specs.Prelude.{◌*◌, ◌≡◌, List, [], ◌∷◌, ◌++◌, ℕ, negsuc, None, Some, Ok}
use Rattle.lease.specs.Bitmaps.{bitmap_of}
use Rattle.lease.specs.Operations.{count_of}
use Rattle.lease.specs.Types.{Reading}
use Rattle.lease.specs.declared.LeaseMsg.{LeaseMsg}
use Rattle.lease.specs.declared.LeaseMsg.TheVariants as M
use Rattle.lease.specs.declared.LeaseNotice.TheVariants as N
use Rattle.lease.specs.Calls.{grant_set}
use Rattle.lease.specs.declared.LeaseNum.{LeaseNum}
use Rattle.lease.specs.Verdicts.{Call, notice, advance, quiet-start, drift}
use Rattle.lease_log.specs.LogTheorem.{run_of}
use Rattle.shift_sheet.specs.declared.rows.SheetRow.{SheetRow}
use Rattle.shift_sheet.specs.Sheet.{sheet_row as row, sheet_rows}

abbrev pub at_ns : ℕ → Reading
at_ns n = record { 0 = n }

abbrev pub at_ms : ℕ → Reading
at_ms n = at_ns (n * 1_000_000)

abbrev pub number : ℕ → LeaseNum
number n = record { 0 = n }

-- ---- the small site

-- A Guard from 1 under 3. With population 1 the last row stands alone.
pub record SmallSites : Type 0 where
  pub small_site :
      sheet_rows (run_of 0 2 1000000000 100000000 (at_ms 0) (notice (number 3) (N.RecvLeaseMsg 1 (M.Guard None)) ∷ [])).manager
      ≡ row 1 0 0 1 1000 ∷ row 2 0 0 0 0 ∷ []
  pub alone : sheet_rows (run_of 0 1 1000000000 100000000 (at_ms 0) []).manager ≡ row 1 0 0 0 0 ∷ []

-- ---- quiet time and drift

abbrev pub from_peer : ℕ → LeaseMsg → Call
from_peer p msg = notice (number 1) (N.RecvLeaseMsg p msg)

-- Drift -50, so that T is 2 s and 2T is 4 s. Guards to 1, 2, 3 and 4; promises to 1 and 2, the latter being revoked; a guard held from 1, a
-- promise from 2; quiet time.
abbrev pub calls : List Call
calls =
    drift (Some (negsuc 49)) ∷ notice (number 1) (N.NewGrants None None) ∷ from_peer 1 M.GuardReply ∷ from_peer 2 M.GuardReply
    ∷ notice (number 1) (N.DoRevoke (Some (bitmap_of 5 4))) ∷ from_peer 1 (M.Guard None) ∷ from_peer 2 (M.Guard None) ∷ from_peer 2 M.Promise ∷ quiet-start ∷ []

-- The sheet after those and more calls: population 5, own id 0, T = 1 s, start 0.
abbrev pub rows_after : List Call → List SheetRow
rows_after more = sheet_rows (run_of 0 5 1000000000 0 (at_ms 0) (calls ++ more)).manager

pub record QuietAndDrift : Type 0 where
  -- In quiet time the grant set has four ids; the sheet counts the two promises that are there.
  pub in_quiet_time :
      rows_after [] ≡ row 1 2 4000 1 2000 ∷ row 2 3 4000 2 2000 ∷ row 3 1 0 0 0 ∷ row 4 1 0 0 0 ∷ row 5 2 0 1 0 ∷ []
  pub grant_set_has_four : count_of (grant_set (run_of 0 5 1000000000 0 (at_ms 0) calls).manager) ≡ Ok 4
  -- 0.4 ms before the held timers run out they have 1 ms left, and the promise is counted.
  pub almost_over :
      rows_after (advance (at_ns 1_999_600_000) ∷ []) ≡ row 1 2 2001 1 1 ∷ row 2 3 2001 2 1 ∷ row 3 1 0 0 0 ∷ row 4 1 0 0 0 ∷ row 5 2 0 1 0 ∷ []
  -- Then they have exploded, and it is not.
  pub over : rows_after (advance (at_ms 2000) ∷ []) ≡ row 1 2 2000 1 0 ∷ row 2 3 2000 2 0 ∷ row 3 1 0 0 0 ∷ row 4 1 0 0 0 ∷ row 5 2 0 0 0 ∷ []
