-- The number that each call answers (rules 10.1 to 10.30), in numerals and by tests on the record
-- and the arguments, not by way of `Refusal`; 0 where the call is accepted. Definitions only.
use Rattle.std.specs.Prelude.{ℕ, ◌*◌, Bool, cond, not, eqb, leb, ltb, List, [], ◌∷◌, Option, None, Some, Result, Ok, Err}
use Rattle.bitmap.specs.Bitmaps.{capacity}
use Rattle.bitmap.specs.declared.Bitmap.{Bitmap}
use Rattle.timer.specs.declared.Reading.{Reading}
use Rattle.lease.specs.declared.LeaseNotice.{LeaseNotice}
use Rattle.lease.specs.declared.LeaseNotice.TheVariants as N
use Rattle.lease.specs.declared.Manager.{Manager}
use Rattle.lease.specs.declared.Refusal.{Refusal}
use Rattle.lease.specs.Limits.{within}
use Rattle.lease.specs.RecordCheck.{record_valid}
use Rattle.lease.specs.Refusals.{refusal_number}

-- The number of an answer.
abbrev pub number_of : {A : Type 0} → Result A Refusal → ℕ
number_of (Ok done) = 0
number_of (Err refusal) = refusal_number refusal

-- Rule 10.30: of several numbers the first whose test holds; 0 if none does.
abbrev pub first_due : List (Bool × ℕ) → ℕ
first_due [] = 0
first_due ((due, number) ∷ rest) = cond due number (first_due rest)

-- Over the largest reading (rule 3.1).
abbrev pub over_maximum : Reading → Bool
over_maximum r = not (leb r.0 9223372036854775807)

-- Set-up.
abbrev pub setup_number : ℕ → ℕ → ℕ → ℕ → Reading → ℕ
setup_number me n t heartbeat now =
    first_due
    ((not (within 100000000 t 10000000000), 1)
    ∷ (leb t (2 * heartbeat), 2)
    ∷ (not (within 1 n capacity), 3)
    ∷ (not (ltb me n), 4)
    ∷ (over_maximum now, 5)
    ∷ [])

-- A call on a record looks at the record first, then at its own numbers.
abbrev pub record_number : Manager → List (Bool × ℕ) → ℕ
record_number m own = first_due ((not (record_valid m), 15) ∷ own)

-- A notice about one peer, and time left.
abbrev pub peer_numbers : Manager → ℕ → List (Bool × ℕ)
peer_numbers m id = (leb m.population id, 7) ∷ (eqb id m.me, 8) ∷ []

-- NewGrants and DoRevoke.
abbrev pub set_numbers : Manager → Option Bitmap → List (Bool × ℕ)
set_numbers m None = []
set_numbers m (Some set) = (not (eqb set.size m.population), 9) ∷ []

abbrev pub notice_numbers : Manager → LeaseNotice → List (Bool × ℕ)
notice_numbers m (N.NewGrants set bar) = set_numbers m set
notice_numbers m (N.DoRevoke set) = set_numbers m set
notice_numbers m N.ClearHeld = []
notice_numbers m (N.RecvLeaseMsg id msg) = peer_numbers m id
notice_numbers m (N.GrantTimeout id) = peer_numbers m id
notice_numbers m (N.LeaseTimeout id) = peer_numbers m id

abbrev pub notice_number : Manager → LeaseNotice → ℕ
notice_number m notice = record_number m (notice_numbers m notice)

abbrev pub advance_number : Manager → Reading → ℕ
advance_number m to = record_number m ((over_maximum to, 5) ∷ (ltb to.0 m.now.0, 6) ∷ [])

-- The set of a refresh has a size from 1 to the capacity.
abbrev pub refresh_numbers : Option Bitmap → List (Bool × ℕ)
refresh_numbers None = []
refresh_numbers (Some set) = (eqb set.size 0, 12) ∷ (ltb capacity set.size, 12) ∷ []

abbrev pub refresh_number : Manager → Option Bitmap → ℕ
refresh_number m set = record_number m (refresh_numbers set)

-- Quiet start, drift setting, grant set, lease set and lease count.
abbrev pub plain_number : Manager → ℕ
plain_number m = record_number m []

abbrev pub time_left_number : Manager → ℕ → ℕ
time_left_number m id = record_number m (peer_numbers m id)
