-- The claims of the pass that a higher number asks for: the rules' pass clears below k, no other
-- rows are cleared so, and a raised record has no entry left. Assumes nothing.
use Prim.Native.Nat.{ℕ, ◌<◌, ◌≤◌}
use mathlib.Core.Path.{◌≡◌, refl, sym, ap, subst, ◌∙◌}
use mathlib.Core.Bool.{Bool, true, false}
use mathlib.Core.List.{List}
use native.Mathlib.Omega.{arith}
use lib.Dec.{eqb, ltb}
use lib.ListN.{length}
use borrow.Author.Tests.{eqb-true, ltb-true, ltb-false}
use Rattle.std.specs.Prelude.{Option, None}
use Rattle.lease.specs.Types.{Timer}
use Rattle.std.proofs.lemmas.List.{get_or_past, ext_get_or}
use Rattle.lease.specs.Bitmaps.{capacity}
use Rattle.lease.specs.declared.Peer.{Peer}
use Rattle.lease.specs.Pass as P
use Rattle.lease.specs.Tables.{below}
use Rattle.lease.specs.Rows.{row_at, empty_row}
use Rattle.lease.specs.Passes.{higher_number_row, row_after, pass_over}
use Rattle.lease.specs.Notices.{with_num, raised_to}
use Rattle.lease.proofs.Tables.{length-below, below-done, below_rest}
use Rattle.lease.proofs.RecordCheck.{few-of, own-row, rest-empty}
use Rattle.peer_rows.specs.Clearing.{ClearedBelow}
use Rattle.peer_rows.specs.ClearingClaims.{SaysAll, RulesClear, OnlyRules, Raised, AllCleared}

-- the row that the rule leaves
abbrev cleared : Peer → Peer
cleared row = (higher_number_row row).peer

module _ (own k : ℕ) (before : List Peer) (bare : row_at before own ≡ empty_row) where
  abbrev after : List Peer
  after = below k (row_after P.HigherNumber own) before

  -- the own id's row, which the rules skip, is as the rule would leave it
  own-same : (i : ℕ) → row_after P.HigherNumber own i (row_at before i) ≡ cleared (row_at before i)
  own-same i = go (eqb i own) refl
    where
      go : (x : Bool) → eqb i own ≡ x → row_after P.HigherNumber own i (row_at before i) ≡ cleared (row_at before i)
      go false e = rw (e, row_after) refl
      go true e = let same : i ≡ own = eqb-true i own e in rw (e, row_after, same, bare) refl

  -- below k each row is as the rule leaves it, past the last id too
  pub done : (i : ℕ) → i < k → row_at after i ≡ cleared (row_at before i)
  done i h = go (ltb i (length before)) refl
    where
      go : (x : Bool) → ltb i (length before) ≡ x → row_at after i ≡ cleared (row_at before i)
      go true e = below-done k i (row_after P.HigherNumber own) before empty_row h (ltb-true i (length before) e) ∙ own-same i
      go false e =
          let l = ltb-false i (length before) e in
          get_or_past after i empty_row (rw (length-below k (row_after P.HigherNumber own) before) l) ∙ sym (ap cleared (get_or_past before i empty_row l))

  -- and from k on as before
  pub kept : (i : ℕ) → k ≤ i → row_at after i ≡ row_at before i
  kept i h = below_rest k i (row_after P.HigherNumber own) before empty_row h

  pub clears : ClearedBelow k before after
  clears =
      record {
        promises_sent = λ i h. ap (λ (r : Peer). r.promise_sent) (done i h);
        promises_held = λ i h. ap (λ (r : Peer). r.promise_held) (done i h);
        guards_sent = λ i h. ap (λ (r : Peer). r.guard_sent) (done i h);
        guards_held = λ i h. ap (λ (r : Peer). r.guard_held) (done i h);
        marks = λ i. go i (ltb i k) refl;
        rest = λ i h. kept i (omega (arith, h));
        as_many = length-below k (row_after P.HigherNumber own) before;
      }
    where
      go : (i : ℕ) (x : Bool) → ltb i k ≡ x → (row_at after i).refresh_mark ≡ (row_at before i).refresh_mark
      go i true e = ap (λ (r : Peer). r.refresh_mark) (done i (ltb-true i k e))
      go i false e = ap (λ (r : Peer). r.refresh_mark) (kept i (ltb-false i k e))

-- a row by its five fields
abbrev row_of : Option Timer → Option (Timer × Bool) → Option Timer → Option Timer → Bool → Peer
row_of g p h q mark = record { guard_sent = g; promise_sent = p; guard_held = h; promise_held = q; refresh_mark = mark }

-- below k a row is what the sentence says of it
below-k : {k : ℕ} {before a : List Peer} → ClearedBelow k before a → (i : ℕ) → i < k → row_at a i ≡ cleared (row_at before i)
below-k {k} {before} {a} c i h =
    let r = row_at a i in
    let mark = (row_at before i).refresh_mark in
    let e : row_of r.guard_sent r.promise_sent r.guard_held r.promise_held r.refresh_mark ≡ row_of None None None None mark =
    rw (c.guards_sent i h, c.promises_sent i h, c.guards_held i h, c.promises_held i h, c.marks i) refl in
    e

pub says_all : SaysAll
says_all k before a b c d = ext_get_or empty_row a b (c.as_many ∙ sym d.as_many) (λ i h. go i (ltb i k) refl)
  where
    go : (i : ℕ) (x : Bool) → ltb i k ≡ x → row_at a i ≡ row_at b i
    go i true e = let l = ltb-true i k e in below-k c i l ∙ sym (below-k d i l)
    go i false e = let l = ltb-false i k e in c.rest i (omega (arith, l)) ∙ sym (d.rest i (omega (arith, l)))

pub rules_clear : RulesClear
unfolding pass_over
rules_clear own k before bare = clears own k before bare

pub only_rules : OnlyRules
only_rules own k before after bare c = says_all k before after _ c (rules_clear own k before bare)

pub raised : Raised
unfolding raised_to
raised m num after bare c = ap (with_num m num) (only_rules m.me m.population m.peers after bare c)

pub all_cleared : AllCleared
unfolding raised_to
all_cleared m num v =
    let n = m.population in
    let c = rules_clear m.me n m.peers (own-row m v) in
    record {
      promises_sent = λ i h. go i h (λ (r : Peer). r.promise_sent ≡ None) (c.promises_sent i) refl;
      promises_held = λ i h. go i h (λ (r : Peer). r.promise_held ≡ None) (c.promises_held i) refl;
      guards_sent = λ i h. go i h (λ (r : Peer). r.guard_sent ≡ None) (c.guards_sent i) refl;
      guards_held = λ i h. go i h (λ (r : Peer). r.guard_held ≡ None) (c.guards_held i) refl;
      marks = c.marks;
      rest = λ i h. c.rest i (omega (arith, few-of m v));
      as_many = c.as_many;
    }
  where
    go : (i : ℕ) → i < capacity → (Q : Peer → Type 0) → (i < m.population → Q (row_at (raised_to m num).peers i)) → Q empty_row → Q (row_at (raised_to m num).peers i)
    go i h Q low high = by (ltb i m.population) refl
      where
        by : (x : Bool) → ltb i m.population ≡ x → Q (row_at (raised_to m num).peers i)
        by true e = low (ltb-true i m.population e)
        by false e =
            let l = ltb-false i m.population e in
            subst Q (sym ((rules_clear m.me m.population m.peers (own-row m v)).rest i l ∙ rest-empty m v i l h)) high
