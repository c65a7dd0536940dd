-- A record that the check passes fits; and `all` of the rows with their ids is what the definition
-- says of them. Assumes nothing.
use Rattle.std.proofs.Common.{◌≡◌, true, arith, refl, ℕ, zero, suc, add-one, ◌+◌, ◌≤◌, List, length, take}
use Rattle.lease.specs.Types.{Reading}
use Rattle.std.specs.List.{list_all, enumerate_from}
use Rattle.std.proofs.lemmas.List.{take_all}
use Rattle.lease.specs.Bitmaps.{capacity}
use Rattle.std.proofs.lemmas.List.Folds.{list_all_more}
use Rattle.std.proofs.lemmas.List.FromFn.{get_or-enumerate_from, length-enumerate_from}
use Rattle.lease.specs.declared.Peer.{Peer}
use Rattle.lease.specs.Rows.{empty_row}
use Rattle.lease.specs.declared.Manager.{Manager}
use Rattle.lease.specs.RecordCheck.{row_valid_at, rows_valid, limits_valid, record_valid}
use Rattle.lease.proofs.RecordCheck.{own-row}
use Rattle.refusals.specs.Fits.{LimitsFit, ManagerFits}

pub fits : (m : Manager) → record_valid m ≡ true → ManagerFits m
unfolding record_valid limits_valid
fits m e =
    record {
      reading = grind (arith, e);
      timeout = grind (arith, e);
      few = grind (arith, e);
      own = grind (arith, e);
      own_row = own-row m e;
    }

pub limits : (m : Manager) → ManagerFits m → LimitsFit m
limits m k = record { reading = k.reading; timeout = k.timeout; few = k.few; own = k.own }

-- of the first k rows
all_below : (own n : ℕ) (now : Reading) (rows : List Peer) (k : ℕ) → k ≤ length rows → list_all (λ p. row_valid_at own n now p.0 p.1) (take k (enumerate_from 0 rows)) ≡ rows_valid own n now rows k
unfolding rows_valid
all_below own n now rows zero h = refl
all_below own n now rows (suc k) h =
    let more = list_all_more (λ p. row_valid_at own n now p.0 p.1) (enumerate_from 0 rows) k (0, empty_row) (omega (arith, length-enumerate_from 0 rows)) in
    let same : 0 + k ≡ k = omega arith in
    simp (← add-one, more, all_below own n now rows k (omega arith), get_or-enumerate_from 0 rows k (0, empty_row) h, same)

-- of all rows
pub all_rows : (own n : ℕ) (now : Reading) (rows : List Peer) → length rows ≡ capacity → list_all (λ p. row_valid_at own n now p.0 p.1) (enumerate_from 0 rows) ≡ rows_valid own n now rows capacity
all_rows own n now rows full = rw (take_all capacity (enumerate_from 0 rows) (omega (arith, length-enumerate_from 0 rows))) at (all_below own n now rows capacity (omega arith))
