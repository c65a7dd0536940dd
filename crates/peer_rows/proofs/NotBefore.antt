-- Where no timer of the rows is due before b: so it stays in each rule about many peers, and an advance to a reading below b leaves the
-- rows. Assumes nothing.
use Rattle.std.specs.Prelude.{Option, None, Some, min}
use Prim.Native.Nat.{ℕ, zero, suc, ◌<◌, ◌≤◌}
use mathlib.Core.Path.{◌≡◌, refl, sym, subst}
use mathlib.Core.Logic.{◌≢◌}
use mathlib.Core.Bool.{Bool, true, false, cond, not, ◌&&◌}
use mathlib.Core.List.{List}
use native.Mathlib.Omega.{arith}
use borrow.Author.Tests.{eqb-true, eqb-false, ltb-true, ltb-false}
use lib.Dec.{eqb, leb, ltb}
use lib.ListN.{length, set}
use Rattle.std.proofs.lemmas.Bool.{lt-leb}
use Rattle.std.proofs.lemmas.List.{get_or_past}
use Rattle.bitmap.proofs.SetsLemmas.{ids_where-empty, empty-count}
use Rattle.lease.specs.Sets.{ids_where}
use Rattle.lease.specs.Bitmaps.{bitmap_of}
use Rattle.lease.specs.Types.{Reading, Timer, Unarmed, Armed, Exploded}
use Rattle.timer.specs.declared.Expired.{Expired}
use Rattle.lease.specs.declared.Peer.{Peer}
use Rattle.lease.specs.declared.Visit.{Visit}
use Rattle.lease.proofs.Tables.{below-done, length-below}
use Rattle.lease.specs.Tables.{below}
use Rattle.lease.specs.Rows.{with_sent, row_at, empty_row, granted, promise_timer}
use Rattle.lease.specs.Pass.{Pass}
use Rattle.lease.specs.Pass as P
use Rattle.lease.specs.Passes.{in_first, in_none, fires_entry, fires_grant, new_grants_row, do_revoke_row, revoked, advance_row, named, pass_row, row_after, is_first, is_second, pass_over}
use Rattle.peer_rows.specs.Due.{entry_due, row_due, rows_due, NotBefore, RowNotBefore, RowsNotBefore, NotArmed, GuardsUnarmed}
use Rattle.peer_rows.specs.Marks.{marks_of}
use Rattle.peer_rows.proofs.NoneDue.{visit_still, below_still}

-- ---- by the earliest deadline

entry_from : (b : ℕ) (e : Option Timer) → b ≤ entry_due e → NotBefore b e
entry_from b None h = tt
entry_from b (Some Unarmed) h = tt
entry_from b (Some (Armed d)) h = h
entry_from b (Some Exploded) h = tt

pub row_from : (b : ℕ) (row : Peer) → b ≤ row_due row → RowNotBefore b row
unfolding row_due
row_from b row h =
    let promise = entry_due (promise_timer row.promise_sent) in
    let held = entry_due row.guard_held in
    let leased = entry_due row.promise_held in (
      entry_from b (promise_timer row.promise_sent) (omega (arith, h)),
      entry_from b row.guard_held (omega (arith, h)),
      entry_from b row.promise_held (omega (arith, h)),
    )

pub rows_from : (b n : ℕ) (rows : List Peer) → b ≤ rows_due n rows → RowsNotBefore b n rows
unfolding rows_due RowsNotBefore
rows_from b zero rows h i l = absurd (omega (arith, l))
rows_from b (suc n) rows h i l = go (rows_from b n rows (omega (arith, h)) i) (eqb i n) refl
  where
    go : (i < n → RowNotBefore b (row_at rows i)) → (x : Bool) → eqb i n ≡ x → RowNotBefore b (row_at rows i)
    go others true e = subst (λ j. RowNotBefore b (row_at rows j)) (sym (eqb-true i n e)) (row_from b (row_at rows n) (omega (arith, h)))
    go others false e = others (omega (arith, l, eqb-false i n e))

-- at 0, and of an empty row
entry_zero : (e : Option Timer) → NotBefore 0 e
entry_zero None = tt
entry_zero (Some Unarmed) = tt
entry_zero (Some (Armed d)) = omega arith
entry_zero (Some Exploded) = tt

pub rows_zero : (n : ℕ) (rows : List Peer) → RowsNotBefore 0 n rows
unfolding RowsNotBefore
rows_zero n rows i l =
    let row = row_at rows i in
    (entry_zero (promise_timer row.promise_sent), entry_zero row.guard_held, entry_zero row.promise_held)

pub empty_never : (b : ℕ) → RowNotBefore b empty_row
empty_never b = (tt, tt, tt)

-- at a number below
entry_lower : (a b : ℕ) (e : Option Timer) → a ≤ b → NotBefore b e → NotBefore a e
entry_lower a b None l h = tt
entry_lower a b (Some Unarmed) l h = tt
entry_lower a b (Some (Armed d)) l h = omega (arith, l, h)
entry_lower a b (Some Exploded) l h = tt

pub row_lower : (a b : ℕ) (row : Peer) → a ≤ b → RowNotBefore b row → RowNotBefore a row
row_lower a b row l (i, j, k) =
    (entry_lower a b (promise_timer row.promise_sent) l i, entry_lower a b row.guard_held l j, entry_lower a b row.promise_held l k)

pub rows_lower : (a b n : ℕ) (rows : List Peer) → a ≤ b → RowsNotBefore b n rows → RowsNotBefore a n rows
unfolding RowsNotBefore
rows_lower a b n rows l h i k = row_lower a b (row_at rows i) l (h i k)

-- ---- the rules about many peers

new_grants : (b : ℕ) (is-named : Bool) (row : Peer) → RowNotBefore b row → RowNotBefore b (new_grants_row is-named row).peer
new_grants b is-named row k = go (is-named && not (granted row.promise_sent))
  where
    go : (x : Bool) → RowNotBefore b (cond {A = Visit} x (in_first true (with_sent row (Some Unarmed) row.promise_sent row.refresh_mark)) (in_none row)).peer
    go true = k
    go false = k

revoked-timer : (b : ℕ) (g : Option (Timer × Bool)) → NotBefore b (promise_timer g) → NotBefore b (promise_timer (revoked g))
revoked-timer b None h = tt
revoked-timer b (Some (t, r)) h = h

do_revoke : (b : ℕ) (is-named : Bool) (row : Peer) → RowNotBefore b row → RowNotBefore b (do_revoke_row is-named row).peer
do_revoke b true row (i, j, k) = (revoked-timer b row.promise_sent i, j, k)
do_revoke b false row h = h

-- what notices take over the rows
abbrev pub OfNotice : Pass → Type 0
OfNotice (P.NewGrants set) = Unit
OfNotice (P.DoRevoke set) = Unit
OfNotice P.ClearHeld = Unit
OfNotice P.HigherNumber = Unit
OfNotice (P.Advance now) = ⊥
OfNotice (P.Refresh set now by) = ⊥
OfNotice P.Granted = ⊥
OfNotice P.Everyone = ⊥
OfNotice (P.Leased now) = ⊥

row_passed : (b : ℕ) (pass : Pass) (i : ℕ) (row : Peer) → OfNotice pass → RowNotBefore b row → RowNotBefore b (pass_row pass i row).peer
row_passed b (P.NewGrants set) i row o h = new_grants b (named set i) row h
row_passed b (P.DoRevoke set) i row o h = do_revoke b (named set i) row h
row_passed b P.ClearHeld i row o (k, l, m) = (k, tt, tt)
row_passed b P.HigherNumber i row o h = (tt, tt, tt)
row_passed b (P.Advance now) i row o h = absurd o
row_passed b (P.Refresh set now by) i row o h = absurd o
row_passed b P.Granted i row o h = absurd o
row_passed b P.Everyone i row o h = absurd o
row_passed b (P.Leased now) i row o h = absurd o

pub rows_passed : (b n own : ℕ) (pass : Pass) (rows : List Peer) → OfNotice pass → RowsNotBefore b n rows → RowsNotBefore b n (pass_over pass own n rows).peers
unfolding RowsNotBefore pass_over
rows_passed b n own pass rows o h i l = go (ltb i (length rows)) refl
  where
    visited : (x : Bool) → RowNotBefore b (row_at rows i) → RowNotBefore b (cond {A = Visit} x (record { peer = row_at rows i; first = false; second = false }) (pass_row pass i (row_at rows i))).peer
    visited true k = k
    visited false k = row_passed b pass i (row_at rows i) o k

    go : (x : Bool) → ltb i (length rows) ≡ x → RowNotBefore b (row_at (below n (row_after pass own) rows) i)
    go true e = subst (RowNotBefore b) (sym (below-done n i (row_after pass own) rows empty_row l (ltb-true i (length rows) e))) (visited (eqb i own) (h i l))
    go false e =
        subst (RowNotBefore b) (sym (get_or_past (below n (row_after pass own) rows) i empty_row (rw (length-below n (row_after pass own) rows) (ltb-false i (length rows) e)))) (empty_never b)

-- ---- one id's row, and others as they were

pub rows_changed :
    (b n id : ℕ) (rows new : List Peer) → RowsNotBefore b n rows → ((i : ℕ) → i ≢ id → row_at new i ≡ row_at rows i) → RowsNotBefore (min b (row_due (row_at new id))) n new
unfolding RowsNotBefore
rows_changed b n id rows new h same i l = go (eqb i id) refl
  where
    least : ℕ
    least = min b (row_due (row_at new id))

    go : (x : Bool) → eqb i id ≡ x → RowNotBefore least (row_at new i)
    go true e = subst (λ j. RowNotBefore least (row_at new j)) (sym (eqb-true i id e)) (row_from least (row_at new id) (omega arith))
    go false e = subst (RowNotBefore least) (sym (same i (eqb-false i id e))) (row_lower least b (row_at rows i) (omega arith) (h i l))

-- ---- advance

entry_not_due : (b : ℕ) (to : Reading) (e : Option Timer) → to.0 < b → NotBefore b e → fires_entry to e ≡ false
entry_not_due b to None l h = refl
entry_not_due b to (Some Unarmed) l h = refl
entry_not_due b to (Some (Armed d)) l h = go (leb d.0 to.0) (lt-leb d.0 to.0 (omega (arith, l, h)))
  where
    go : (x : Bool) → x ≡ false → (cond {A = Expired} x (record { timer = Exploded; fired = true }) (record { timer = Armed d; fired = false })).fired ≡ false
    go true e = e
    go false e = refl
entry_not_due b to (Some Exploded) l h = refl

grant_not_due : (b : ℕ) (to : Reading) (g : Option (Timer × Bool)) → to.0 < b → NotBefore b (promise_timer g) → fires_grant to g ≡ false
grant_not_due b to None l h = refl
grant_not_due b to (Some (t, r)) l h = entry_not_due b to (Some t) l h

guard_not_due : (to : Reading) (e : Option Timer) → NotArmed e → fires_entry to e ≡ false
guard_not_due to None u = refl
guard_not_due to (Some Unarmed) u = refl
guard_not_due to (Some (Armed d)) u = absurd u
guard_not_due to (Some Exploded) u = refl

row_not_due : (b : ℕ) (to : Reading) (row : Peer) → to.0 < b → RowNotBefore b row → NotArmed row.guard_sent → ((advance_row to row).first ≡ false) × ((advance_row to row).second ≡ false)
row_not_due b to row l (i, j, k) u =
    (rw (guard_not_due to row.guard_sent u, grant_not_due b to row.promise_sent l i) refl, rw (entry_not_due b to row.guard_held l j, entry_not_due b to row.promise_held l k) refl)

module _ (b n own : ℕ) (to : Reading) (rows : List Peer) (below_b : to.0 < b) (h : RowsNotBefore b n rows) (u : GuardsUnarmed n rows) where
  first : (i : ℕ) → i < n → is_first (P.Advance to) own rows i ≡ false
  unfolding RowsNotBefore GuardsUnarmed
  first i l = go (eqb i own)
    where
      go : (x : Bool) → (cond {A = Visit} x (record { peer = row_at rows i; first = false; second = false }) (advance_row to (row_at rows i))).first ≡ false
      go true = refl
      go false = (row_not_due b to (row_at rows i) below_b (h i l) (u i l)).0

  second : (i : ℕ) → i < n → is_second (P.Advance to) own rows i ≡ false
  unfolding RowsNotBefore GuardsUnarmed
  second i l = go (eqb i own)
    where
      go : (x : Bool) → (cond {A = Visit} x (record { peer = row_at rows i; first = false; second = false }) (advance_row to (row_at rows i))).second ≡ false
      go true = refl
      go false = (row_not_due b to (row_at rows i) below_b (h i l) (u i l)).1

  first_empty : ids_where (is_first (P.Advance to) own rows) n ≡ 0
  first_empty = ids_where-empty (is_first (P.Advance to) own rows) n first

  pub none_marked : marks_of (pass_over (P.Advance to) own n rows) ≡ record { first = bitmap_of n 0; second = bitmap_of n 0; count = 0 }
  unfolding pass_over
  none_marked = rw (first_empty, ids_where-empty (is_second (P.Advance to) own rows) n second, empty-count (is_first (P.Advance to) own rows) n first_empty) refl

  pub rows_stay : (pass_over (P.Advance to) own n rows).peers ≡ rows
  unfolding pass_over
  rows_stay = below_still n (row_after (P.Advance to) own) rows (λ i l. visit_still to own i (row_at rows i) (first i l) (second i l))
