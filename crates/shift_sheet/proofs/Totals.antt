-- The totals of a sheet are the counts of the rules' own passes, and how many rows a sheet has. Assumes nothing.
use Rattle.std.specs.Prelude.{Option, None, Some}
use Prim.Native.Nat.{ℕ, zero, suc, ◌+◌, ◌≤◌, ◌<◌}
use mathlib.Core.Path.{◌≡◌, refl, sym, ◌∙◌}
use mathlib.Core.Bool.{Bool, true, false, cond, true≢false}
use mathlib.Core.List.{List, [], ◌∷◌, ◌++◌}
use native.Mathlib.Omega.{arith}
use lib.Dec.{eqb, ltb}
use lib.ListN.{length, length-append}
use borrow.Author.Tests.{eqb-true, eqb-false, ne_eqb, ltb-true, ltb-false}
use Rattle.lease.specs.Sets.{one, count_where}
use Rattle.lease.specs.Types.{Reading, Timer}
use Rattle.lease.specs.Timers.{is_active, ms_left}
use Rattle.timer.proofs.Claims.{zero-when-over}
use Rattle.lease.specs.declared.Peer.{Peer}
use Rattle.lease.specs.declared.Manager.{Manager}
use Rattle.lease.specs.Rows.{row_at, granted, active_entry}
use Rattle.lease.specs.Pass.{Pass}
use Rattle.lease.specs.Pass as P
use Rattle.lease.specs.Passes.{pass_row, visit_of, is_first, in_none, pass_over}
use Rattle.lease.specs.Notices.{pass_on}
use Rattle.shift_sheet.specs.declared.rows.SheetRow.{SheetRow}
use Rattle.shift_sheet.specs.Sheet.{grant_state, held_state, side_timer, side_left, peer_row, rows_below, rows_of_peers, is_granted_row, is_leased_row, count_rows}

-- ---- a row's test is the pass's test

-- grant states 2 and 3 are those of a promise sent
state-granted :
    (guard : Option Timer) (promise : Option (Timer × Bool))
    → cond (eqb (grant_state guard promise) 2) true (eqb (grant_state guard promise) 3) ≡ granted promise
state-granted guard (Some (t, true)) = refl
state-granted guard (Some (t, false)) = refl
state-granted (Some t) None = refl
state-granted None None = refl

-- so a row is counted among the granted ones exactly if its peer has a promise sent
pub row-granted : (now : Reading) (id : ℕ) (row : Peer) → is_granted_row (peer_row now id row) ≡ granted row.promise_sent
unfolding peer_row
row-granted now id row = state-granted row.guard_sent row.promise_sent

-- a timer is active exactly if some ms are left
active-some : (now : Reading) (t : Timer) → is_active now t ≡ ltb 0 (ms_left now t)
active-some now t = go (is_active now t) (ltb 0 (ms_left now t)) refl refl
  where
    go : (a b : Bool) → is_active now t ≡ a → ltb 0 (ms_left now t) ≡ b → a ≡ b
    go true true p q = refl
    go true false p q = absurd (true≢false (sym p ∙ (zero-when-over now t).1 (omega (arith, ltb-false 0 (ms_left now t) q))))
    go false true p q = absurd (omega (arith, (zero-when-over now t).0 p, ltb-true 0 (ms_left now t) q))
    go false false p q = refl

-- held state 2 with some ms left is that of an active promise held
state-leased :
    (now : Reading) (guard promise : Option Timer)
    → cond (eqb (held_state guard promise) 2) (ltb 0 (side_left now (side_timer guard promise))) false ≡ active_entry now promise
state-leased now guard (Some t) = sym (active-some now t)
state-leased now (Some t) None = refl
state-leased now None None = refl

-- so a row is counted among the leased ones exactly if its peer's promise held is active
pub row-leased : (now : Reading) (id : ℕ) (row : Peer) → is_leased_row (peer_row now id row) ≡ active_entry now row.promise_held
unfolding peer_row
row-leased now id row = state-leased now row.guard_held row.promise_held

-- ---- counts of rows are counts of ids

-- rows behind rows count together
count-append : (p : SheetRow → Bool) (a b : List SheetRow) → count_rows p (a ++ b) ≡ count_rows p a + count_rows p b
unfolding count_rows
count-append p [] b = omega arith
count-append p (r ∷ a) b = omega (arith, count-append p a b)

-- what the rows of one id add to a count: none at the own id
count_at : (p : SheetRow → Bool) (own : Bool) (r : SheetRow) (first : Bool) → p r ≡ first → count_rows p (cond own [] (r ∷ [])) ≡ one (cond own false first)
unfolding count_rows
count_at p true r first e = refl
count_at p false r first e = rw e (omega arith)

-- the first set's flag of a visit that skips the own id
first_of-visit : (pass : Pass) (own i : ℕ) (row : Peer) → (visit_of pass own i row).first ≡ cond (eqb i own) false (pass_row pass i row).first
first_of-visit pass own i row = go (eqb i own)
  where
    go : (x : Bool) → (cond x (in_none row) (pass_row pass i row)).first ≡ cond x false (pass_row pass i row).first
    go true = refl
    go false = refl

-- a test of rows that says what a pass says of their peers counts what the pass counts
counts-below :
    (p : SheetRow → Bool) (pass : Pass) (m : Manager)
    → ((i : ℕ) (row : Peer) → p (peer_row m.now i row) ≡ (pass_row pass i row).first)
    → (k : ℕ) → count_rows p (rows_below m k) ≡ count_where (is_first pass m.me m.peers) k
unfolding rows_below count_rows count_where
counts-below p pass m same zero = refl
counts-below p pass m same (suc k) =
    let row = row_at m.peers k in
    let here = count_at p (eqb k m.me) (peer_row m.now k row) (pass_row pass k row).first (same k row) in
    let first = first_of-visit pass m.me k row in
    rw (count-append p (rows_below m k) (cond (eqb k m.me) [] (peer_row m.now k row ∷ [])), counts-below p pass m same k, here, first)

-- the rows with grant states 2 and 3 are as many as the peers with a promise sent
pub granted_rows : (m : Manager) → count_rows is_granted_row (rows_of_peers m) ≡ (pass_on m P.Granted).count
unfolding pass_over
granted_rows m = counts-below is_granted_row P.Granted m (row-granted m.now) m.population

-- the rows with an active promise held are as many as the peers with one
pub leased_rows : (m : Manager) → count_rows is_leased_row (rows_of_peers m) ≡ (pass_on m (P.Leased m.now)).count
unfolding pass_over
leased_rows m = counts-below is_leased_row (P.Leased m.now) m (row-leased m.now) m.population

-- ---- how many rows

-- one id has one row at most, and one exactly if it is not the own id
length_at : (own : Bool) (r : SheetRow) → length (cond own [] (r ∷ [])) + one own ≡ 1
length_at true r = refl
length_at false r = refl

-- no more rows than ids
pub rows_length : (m : Manager) (k : ℕ) → length (rows_below m k) ≤ k
unfolding rows_below
rows_length m zero = omega arith
rows_length m (suc k) =
    let r = peer_row m.now k (row_at m.peers k) in
    rw (length-append (rows_below m k) (cond (eqb k m.me) [] (r ∷ []))) (omega (arith, rows_length m k, length_at (eqb k m.me) r))

-- the own id alone has no row: before it as many rows as ids
rows_before : (m : Manager) (k : ℕ) → k ≤ m.me → length (rows_below m k) ≡ k
unfolding rows_below
rows_before m zero h = refl
rows_before m (suc k) h =
    let r = peer_row m.now k (row_at m.peers k) in
    rw (length-append (rows_below m k) (cond (eqb k m.me) [] (r ∷ [])), rows_before m k (omega arith), ne_eqb k m.me (λ e. omega arith)) (omega arith)

-- and behind it one fewer
pub rows_count : (m : Manager) (k : ℕ) → m.me < k → length (rows_below m k) + 1 ≡ k
unfolding rows_below
rows_count m zero h = absurd (omega arith)
rows_count m (suc k) h =
    let r = peer_row m.now k (row_at m.peers k) in
    rw (length-append (rows_below m k) (cond (eqb k m.me) [] (r ∷ []))) (go (eqb k m.me) refl (λ l. rows_count m k l))
  where
    go :
        (x : Bool) → eqb k m.me ≡ x → (m.me < k → length (rows_below m k) + 1 ≡ k)
        → length (rows_below m k) + length (cond (eqb k m.me) [] (peer_row m.now k (row_at m.peers k) ∷ [])) + 1 ≡ suc k
    go true e ih = rw e (omega (arith, eqb-true k m.me e, rows_before m k (omega (arith, eqb-true k m.me e))))
    go false e ih = let ne = eqb-false k m.me e in rw e (omega (arith, ih (omega (arith, ne))))
