-- What a record that the check passes has: limits that hold, a row for each id that is valid there.
use Prim.Native.Nat.{ℕ, zero, suc, ◌≤◌, ◌<◌}
use mathlib.Core.Path.{◌≡◌, refl, sym, subst}
use mathlib.Core.Bool.{Bool, true, false, ◌&&◌, true≢false}
use mathlib.Core.List.{List}
use native.Mathlib.Omega.{arith}
use lib.Dec.{leb, ltb}
use borrow.Author.Tests.{eq-eqb, lt-ltb, le-ltb, ltb-true, ltb-false, leb-true}
use Rattle.std.specs.Prelude.{Option, Some, None}
use Rattle.timer.specs.declared.Timer.{Timer}
use Rattle.bitmap.specs.Bitmaps.{capacity}
use Rattle.drift.specs.Clocks.{is_settable}
use Rattle.timer.specs.declared.Reading.{Reading}
use Rattle.lease.specs.declared.Peer.{Peer}
use Rattle.lease.specs.declared.Manager.{Manager}
use Rattle.lease.specs.Rows.{row_at, empty_row}
use Rattle.lease.specs.Limits.{timeout_valid, population_valid, own_valid, reading_valid}
use Rattle.lease.specs.RecordCheck.{quiet_valid, row_empty, row_valid_at, rows_valid, limits_valid, record_valid}
use Rattle.lease.proofs.Tests.{both, fst-of, snd-of}

abbrev rows : Manager → Bool
rows m = rows_valid m.me m.population m.now m.peers capacity

abbrev rest : Manager → Bool
rest m = is_settable m.clock && quiet_valid m.now m.quiet_timer

pub limits_of : (m : Manager) → record_valid m ≡ true → limits_valid m ≡ true
unfolding record_valid
limits_of m e = fst-of (limits_valid m) (rows m) (fst-of (limits_valid m && rows m) (rest m) e)

pub rows_of : (m : Manager) → record_valid m ≡ true → rows_valid m.me m.population m.now m.peers capacity ≡ true
unfolding record_valid
rows_of m e = snd-of (limits_valid m) (rows m) (fst-of (limits_valid m && rows m) (rest m) e)

-- no more peers than ids
pub few-of : (m : Manager) → record_valid m ≡ true → m.population ≤ capacity
unfolding limits_valid
few-of m e =
    let n = m.population in
    let t = m.expire_timeout in
    let a = fst-of (timeout_valid t && population_valid n) (own_valid m.me n && reading_valid m.now) (limits_of m e) in
    leb-true n capacity (both (leb 1 n) (leb n capacity) (snd-of (timeout_valid t) (population_valid n) a)).1

-- the row of an id below k
pub row-of : (own n : ℕ) (now : Reading) (rows : List Peer) (k i : ℕ) → rows_valid own n now rows k ≡ true → i < k → row_valid_at own n now i (row_at rows i) ≡ true
unfolding rows_valid
row-of own n now rows zero i e h = absurd (omega arith)
row-of own n now rows (suc k) i e h =
    go (ltb i k) refl (λ l. row-of own n now rows k i (fst-of (rows_valid own n now rows k) (row_valid_at own n now k (row_at rows k)) e) l)
    (snd-of (rows_valid own n now rows k) (row_valid_at own n now k (row_at rows k)) e)
  where
    go : (x : Bool) → ltb i k ≡ x → (i < k → row_valid_at own n now i (row_at rows i) ≡ true) → row_valid_at own n now k (row_at rows k) ≡ true → row_valid_at own n now i (row_at rows i) ≡ true
    go true q ih here = ih (ltb-true i k q)
    go false q ih here = let same : k ≡ i = omega (arith, ltb-false i k q) in subst (λ j. row_valid_at own n now j (row_at rows j) ≡ true) same here

-- a row without entry and mark is the empty row
empty-row : (row : Peer) → row_empty row ≡ true → row ≡ empty_row
unfolding row_empty
empty-row row e = go row.guard_sent row.promise_sent row.guard_held row.promise_held row.refresh_mark e
  where
    go : (g : Option Timer) (p : Option (Timer × Bool)) (h q : Option Timer) (mark : Bool)
        → row_empty (record { guard_sent = g; promise_sent = p; guard_held = h; promise_held = q; refresh_mark = mark }) ≡ true
        → record { guard_sent = g; promise_sent = p; guard_held = h; promise_held = q; refresh_mark = mark } ≡ empty_row
    go g p h q true e = absurd (true≢false (sym e))
    go (Some t) p h q false e = absurd (true≢false (sym e))
    go None (Some (t, b)) h q false e = absurd (true≢false (sym e))
    go None None (Some t) q false e = absurd (true≢false (sym e))
    go None None None (Some t) false e = absurd (true≢false (sym e))
    go None None None None false e = refl

-- what the check says of the row i
valid-at : (m : Manager) → record_valid m ≡ true → (i : ℕ) → i < capacity → row_valid_at m.me m.population m.now i (row_at m.peers i) ≡ true
valid-at m e i h = row-of m.me m.population m.now m.peers capacity i (rows_of m e) h

-- the own id is below the population
pub own-below : (m : Manager) → record_valid m ≡ true → m.me < m.population
unfolding record_valid limits_valid
own-below m e = grind (arith, e)

-- the own id's row is empty
pub own-row : (m : Manager) → record_valid m ≡ true → row_at m.peers m.me ≡ empty_row
unfolding row_valid_at
own-row m e =
    let h = own-below m e in
    empty-row (row_at m.peers m.me) (rw (lt-ltb m.me m.population h, eq-eqb m.me m.me refl) at (valid-at m e m.me (omega (arith, h, few-of m e))))

-- and so are those from the population on
pub rest-empty : (m : Manager) → record_valid m ≡ true → (i : ℕ) → m.population ≤ i → i < capacity → row_at m.peers i ≡ empty_row
unfolding row_valid_at
rest-empty m e i h k = empty-row (row_at m.peers i) (rw (le-ltb i m.population h) at (valid-at m e i k))
