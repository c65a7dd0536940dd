-- The claims of specs/LeftClaims.antt.
use Rattle.std.specs.Prelude.{Option, None, Some, Result, Ok, Err}
use Prim.Native.Nat.{ℕ}
use mathlib.Core.Path.{◌≡◌, refl, sym, ap, ◌∙◌}
use mathlib.Core.Bool.{Bool, true, false, true≢false}
use native.Mathlib.Omega.{arith}
use lib.Dec.{ltb}
use borrow.Author.Tests.{ltb-true, ltb-false}
use Rattle.bitmap.specs.Bitmaps.{is_one}
use Rattle.bitmap.proofs.Bitmaps.{is_one-below}
use Rattle.lease.specs.declared.Refusal.{Refusal}
use Rattle.timer.specs.declared.Reading.{Reading}
use Rattle.timer.specs.declared.Timer.{Timer}
use Rattle.timer.specs.Timers.{is_active, ms_left}
use Rattle.timer.proofs.Claims.{zero-when-over}
use Rattle.lease.specs.Pass as P
use Rattle.lease.specs.declared.Manager.{Manager}
use Rattle.lease.specs.Rows.{present, active_entry}
use Rattle.lease.specs.Passes.{is_first, pass_over}
use Rattle.lease.specs.RecordCheck.{record_valid}
use Rattle.lease.specs.Refusals.{peer_refusal}
use Rattle.lease.specs.Calls.{left_on, lease_set, time_left}
use Rattle.lease.specs.Rules.{time_left_of}
use Rattle.lease.specs.LeftClaims.{promise_of, NoneLeft, ZeroLeft, some_left, LeftLeased}
use Rattle.lease.proofs.Judged.{judged-by, peer-below, peer-other}

-- ---- of an entry

abbrev is-ms : Option ℕ → Bool
is-ms None = false
is-ms (Some ms) = true

abbrev ms-in : Option ℕ → ℕ
ms-in None = 0
ms-in (Some ms) = ms

none-on : (now : Reading) (e : Option Timer) → (left_on now e ≡ None → present e ≡ false) × (present e ≡ false → left_on now e ≡ None)
none-on now None = (λ h. refl, λ h. refl)
none-on now (Some t) = (λ h. ap is-ms h, λ h. absurd (true≢false h))

zero-on : (now : Reading) (e : Option Timer)
    → (left_on now e ≡ Some 0 → (present e ≡ true) × (active_entry now e ≡ false))
    × ((present e ≡ true) × (active_entry now e ≡ false) → left_on now e ≡ Some 0)
zero-on now None = (λ h. absurd (true≢false (sym (ap is-ms h))), λ r. absurd (true≢false (sym r.0)))
zero-on now (Some t) = (λ h. (refl, (zero-when-over now t).1 (ap ms-in h)), λ r. ap Some ((zero-when-over now t).0 r.1))

-- a timer is active exactly if some ms are left
some_left_lem : (now : Reading) (t : Timer) → is_active now t ≡ ltb 0 (ms_left now t)
some_left_lem now t = go (is_active now t) (ltb 0 (ms_left now t)) refl refl
  where
    go : (a b : Bool) → is_active now t ≡ a → ltb 0 (ms_left now t) ≡ b → a ≡ b
    go true true p q = refl
    go true false p q = absurd (true≢false (sym p ∙ (zero-when-over now t).1 (omega (arith, ltb-false 0 (ms_left now t) q))))
    go false true p q = absurd (omega (arith, (zero-when-over now t).0 p, ltb-true 0 (ms_left now t) q))
    go false false p q = refl

active-left : (now : Reading) (e : Option Timer) → active_entry now e ≡ some_left (left_on now e)
active-left now None = refl
active-left now (Some t) = some_left_lem now t

-- ---- of a record

pub none_left : NoneLeft
none_left m id = none-on m.now (promise_of m id)

pub zero_left : ZeroLeft
zero_left m id = zero-on m.now (promise_of m id)

-- a peer that is not refused is in the lease set exactly if its promise is active
leased : (m : Manager) (id : ℕ) → peer_refusal m.population m.me id ≡ Ok tt → is_one (lease_set m) id ≡ active_entry m.now (promise_of m id)
unfolding lease_set pass_over
leased m id z =
    is_one-below m.population (is_first (P.Leased m.now) m.me m.peers) id (peer-below m.population m.me id z)
    ∙ rw (peer-other m.population m.me id z, is_first) refl

abbrev is-left : Result (Option ℕ) Refusal → Bool
is-left (Err k) = false
is-left (Ok l) = true

abbrev left_in : Result (Option ℕ) Refusal → Option ℕ
left_in (Err k) = None
left_in (Ok l) = l

pub left-leased : LeftLeased
unfolding time_left_of
left-leased m id left h =
    judged-by (λ (o : Result (Option ℕ) Refusal). o ≡ Ok left → is_one (lease_set m) id ≡ some_left left) (record_valid m) (peer_refusal m.population m.me id) (λ k. Err k)
    (Ok (time_left m id)) (λ k e. absurd (true≢false (sym (ap is-left e))))
    (λ z e. leased m id z ∙ active-left m.now (promise_of m id) ∙ ap some_left (ap left_in e))
    h
