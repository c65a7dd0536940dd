-- What is claimed of time left (rule 9.4). Each claim is proved in proofs/Left under the same name in small letters.
use Rattle.std.specs.Prelude.{ℕ, ◌≡◌, Bool, true, false, ltb, Option, None, Some, Ok}
use Rattle.bitmap.specs.Bitmaps.{is_one}
use Rattle.timer.specs.declared.Timer.{Timer}
use Rattle.lease.specs.declared.Manager.{Manager}
use Rattle.lease.specs.Rows.{row_at, present, active_entry}
use Rattle.lease.specs.Calls.{lease_set, time_left}
use Rattle.lease.specs.Rules.{time_left_of}

-- the promise held from a peer, or none
abbrev pub promise_of : Manager → ℕ → Option Timer
promise_of m id = (row_at m.peers id).promise_held

-- none exactly without a held promise
abbrev pub NoneLeft : Type 0
NoneLeft = (m : Manager) (id : ℕ) → (time_left m id ≡ None → present (promise_of m id) ≡ false) × (present (promise_of m id) ≡ false → time_left m id ≡ None)

-- there is one, and it has run out: its timer is not active
abbrev pub RunOut : Manager → ℕ → Type 0
RunOut m id = (present (promise_of m id) ≡ true) × (active_entry m.now (promise_of m id) ≡ false)

-- 0 exactly then
abbrev pub ZeroLeft : Type 0
ZeroLeft = (m : Manager) (id : ℕ) → (time_left m id ≡ Some 0 → RunOut m id) × (RunOut m id → time_left m id ≡ Some 0)

-- whether some ms are left
abbrev pub some_left : Option ℕ → Bool
some_left None = false
some_left (Some ms) = ltb 0 ms

-- where the question is answered, the peer is in the lease set exactly if some ms are left
abbrev pub LeftLeased : Type 0
LeftLeased = (m : Manager) (id : ℕ) (left : Option ℕ) → time_left_of m id ≡ Ok left → is_one (lease_set m) id ≡ some_left left
