-- Rows that have no timer that is due stay as they are. Assumes nothing.
use Rattle.std.specs.Prelude.{Option, None, Some}
use Prim.Native.Nat.{ℕ, zero, suc, ◌<◌, max}
use mathlib.Core.Path.{◌≡◌, refl, ap}
use mathlib.Core.Bool.{Bool, true, false, cond, ◌||◌, true≢false}
use mathlib.Core.List.{List, [], ◌∷◌}
use native.Mathlib.Omega.{arith}
use lib.Dec.{eqb, leb}
use mathlib.Core.Path.{sym, ◌∙◌}
use borrow.Author.Tests.{lt-ltb}
use Rattle.std.specs.Int.Bits.{bit_or}
use Rattle.bitmap.proofs.SetsLemmas.{member_below}
use Rattle.lease.specs.Sets.{member, ids_where}
use Rattle.lease.specs.Bitmaps.{is_one}
use Rattle.lease.specs.Types.{Bitmap}
use Rattle.peer_rows.specs.declared.pass.Marks.{Marks}
use Rattle.peer_rows.specs.Marks.{marks_of, either}
use Rattle.peer_rows.proofs.Either.{none_in, member_or}
use Rattle.lease.specs.Types.{Reading, Timer, Unarmed, Armed, Exploded}
use Rattle.lease.specs.Timers.{expired_at}
use Rattle.timer.specs.declared.Expired.{Expired}
use Rattle.lease.specs.declared.Peer.{Peer}
use Rattle.lease.specs.declared.Visit.{Visit}
use Rattle.lease.specs.Tables.{below}
use Rattle.lease.specs.Rows.{row_at}
use Rattle.lease.specs.Pass as P
use Rattle.lease.specs.Passes.{fires_entry, fires_grant, expired_entry, expired_grant, in_none, advance_row, visit_of, row_after, is_first, is_second, pass_over}

timer_still : (to : Reading) (t : Timer) → (expired_at to t).fired ≡ false → (expired_at to t).timer ≡ t
timer_still to Unarmed e = refl
timer_still to (Armed d) e = go (leb d.0 to.0) e
  where
    go : (b : Bool) → (cond {A = Expired} b (record { timer = Exploded; fired = true }) (record { timer = Armed d; fired = false })).fired ≡ false → (cond {A = Expired} b (record { timer = Exploded; fired = true }) (record { timer = Armed d; fired = false })).timer ≡ Armed d
    go true e = absurd (let z : ◌≡◌ {A = ℕ} 0 1 = cc in omega arith)
    go false e = refl
timer_still to Exploded e = refl

entry_still : (to : Reading) (t : Option Timer) → fires_entry to t ≡ false → expired_entry to t ≡ t
entry_still to None e = refl
entry_still to (Some t) e = ap (λ (x : Timer). Some x) (timer_still to t e)

grant_still : (to : Reading) (g : Option (Timer × Bool)) → fires_grant to g ≡ false → expired_grant to g ≡ g
grant_still to None e = refl
grant_still to (Some (t, revoking)) e = ap (λ (x : Timer). Some (x, revoking)) (timer_still to t e)

neither : (a b : Bool) → (a || b) ≡ false → (a ≡ false) × (b ≡ false)
neither true b e = absurd (let z : ◌≡◌ {A = ℕ} 0 1 = cc in omega arith)
neither false b e = (refl, e)

row_still : (to : Reading) (row : Peer) → (advance_row to row).first ≡ false → (advance_row to row).second ≡ false → (advance_row to row).peer ≡ row
row_still to row e f =
    let s = neither (fires_entry to row.guard_sent) (fires_grant to row.promise_sent) e in
    let h = neither (fires_entry to row.guard_held) (fires_entry to row.promise_held) f in
    rw (entry_still to row.guard_sent s.0, grant_still to row.promise_sent s.1, entry_still to row.guard_held h.0, entry_still to row.promise_held h.1) refl

pub visit_still : (to : Reading) (own i : ℕ) (row : Peer) → (visit_of (P.Advance to) own i row).first ≡ false → (visit_of (P.Advance to) own i row).second ≡ false → (visit_of (P.Advance to) own i row).peer ≡ row
visit_still to own i row e f = go (eqb i own) e f
  where
    go : (b : Bool) → (cond {A = Visit} b (record { peer = row; first = false; second = false }) (advance_row to row)).first ≡ false → (cond {A = Visit} b (record { peer = row; first = false; second = false }) (advance_row to row)).second ≡ false → (cond {A = Visit} b (record { peer = row; first = false; second = false }) (advance_row to row)).peer ≡ row
    go true e f = refl
    go false e f = row_still to row e f

pub below_still : (n : ℕ) (f : ℕ → Peer → Peer) (rows : List Peer) → ((i : ℕ) → i < n → f i (row_at rows i) ≡ row_at rows i) → below n f rows ≡ rows
unfolding below
below_still zero f rows e = refl
below_still (suc n) f [] e = refl
below_still (suc n) f (x ∷ t) e = rw (e 0 (omega arith), below_still n (λ i. f (suc i)) t (λ i l. e (suc i) (omega (arith, l)))) refl

module _ (to : Reading) (own n : ℕ) (rows : List Peer) (due : Marks) (sets : due ≡ marks_of (pass_over (P.Advance to) own n rows)) (ids : Bitmap) (both : ids ≡ either due) where
  abbrev p : ℕ → Bool
  p = is_first (P.Advance to) own rows

  abbrev q : ℕ → Bool
  q = is_second (P.Advance to) own rows

  -- who is in one of the sets
  in_either : (i : ℕ) → i < n → is_one ids i ≡ member (bit_or (ids_where p n) (ids_where q n)) i
  unfolding pass_over
  in_either i h =
      let below : i < max n n = omega arith in
      ap (λ (b : Bitmap). is_one b i) (both ∙ ap either sets) ∙ rw (lt-ltb i (max n n) below) refl

  -- the row of an id in neither set
  pub undue : (i : ℕ) → i < n → is_one ids i ≡ false → row_after (P.Advance to) own i (row_at rows i) ≡ row_at rows i
  undue i h e =
      let s = neither (member (ids_where p n) i) (member (ids_where q n) i) (sym (in_either i h ∙ member_or (ids_where p n) (ids_where q n) i) ∙ e) in
      visit_still to own i (row_at rows i) (sym (member_below p n i h) ∙ s.0) (sym (member_below q n i h) ∙ s.1)

  -- the own id is in neither
  due_other : (i : ℕ) → i < n → is_one ids i ≡ true → eqb i own ≡ false
  due_other i h e = go (eqb i own) refl
    where
      go : (b : Bool) → eqb i own ≡ b → b ≡ false
      go true o =
          let first : p i ≡ false = ap (λ (b : Bool). (cond {A = Visit} b (in_none (row_at rows i)) (advance_row to (row_at rows i))).first) o in
          let second : q i ≡ false = ap (λ (b : Bool). (cond {A = Visit} b (in_none (row_at rows i)) (advance_row to (row_at rows i))).second) o in
          let x : member (ids_where p n) i ≡ false = member_below p n i h ∙ first in
          let y : member (ids_where q n) i ≡ false = member_below q n i h ∙ second in
          absurd (true≢false (sym e ∙ in_either i h ∙ member_or (ids_where p n) (ids_where q n) i ∙ rw (x, y) refl))
      go false o = refl

  -- the row of an id in one of them
  pub at_due : (i : ℕ) → i < n → is_one ids i ≡ true → (row : Peer) → row_after (P.Advance to) own i row ≡ (advance_row to row).peer
  at_due i h e row = ap (λ (b : Bool). (cond {A = Visit} b (in_none row) (advance_row to row)).peer) (due_other i h e)

  -- where no id is in either
  pub none_due : ids.bits ≡ 0 → (pass_over (P.Advance to) own n rows).peers ≡ rows
  unfolding pass_over
  none_due e = below_still n (row_after (P.Advance to) own) rows (λ i h. undue i h (none_in ids i e))
