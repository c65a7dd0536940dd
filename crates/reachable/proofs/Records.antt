-- What holds of a whole record, with bounds on how far past now its deadlines reach, and that what each call does keeps it. Assumes nothing.
use Rattle.std.specs.Prelude.{Option, None, Some, Ok, Err, Result, ℤ}
use mathlib.Core.Path.{◌≡◌, refl, sym, subst, ◌∙◌}
use mathlib.Core.Logic.{◌≢◌}
use mathlib.Core.Bool.{Bool, true, false, not, cond, ◌&&◌}
use mathlib.Core.List.{List}
use Prim.Native.Nat.{ℕ, zero, suc, ◌+◌, ◌*◌, ◌≤◌, ◌<◌}
use native.Mathlib.Omega.{arith}
use lib.Dec.{T, leb, ltb, eqb}
use lib.ListN.{length, set, length-set, get_or-replicate}
use lib.Seq.{get_or-set_same, get_or-set_other}
use Rattle.std.proofs.lemmas.List.{get_or_past}
use borrow.Author.Tests.{lt-ltb, ltb-true, ltb-false, eqb-false, ne_eqb}
use Rattle.drift.specs.Claims.{longest_in_use}
use Rattle.drift.proofs.Claims.{clock-at-most, clock-above-zero, setting-found}
use Rattle.lease.specs.Bitmaps.{capacity}
use Rattle.lease.specs.Types.{Bitmap, Clock, Reading}
use Rattle.lease.specs.Clocks.{is_settable}
use Rattle.lease.specs.Timers.{farthest, drifted}
use Rattle.lease.specs.declared.Peer.{Peer}
use Rattle.lease.specs.declared.Refusal.{Refusal}
use Rattle.lease.specs.declared.Refusal.TheVariants as R
use Rattle.lease.specs.declared.LeaseNum.{LeaseNum}
use Rattle.lease.specs.declared.LeaseNotice.{LeaseNotice}
use Rattle.lease.specs.declared.LeaseNotice.TheVariants as N
use Rattle.lease.specs.declared.PeerNotice.{PeerNotice}
use Rattle.lease.specs.declared.PeerNotice.TheVariants as PN
use Rattle.lease.specs.declared.Manager.{Manager}
use Rattle.lease.specs.Pass.{Pass}
use Rattle.lease.specs.Pass as P
use Rattle.lease.specs.Rows.{row_at, empty_row}
use Rattle.lease.specs.Fired.{sent_deadline}
use Rattle.lease.specs.Passes.{named, pass_row, row_after, pass_over}
use Rattle.lease.specs.Limits.{timeout_valid, population_valid, own_valid, reading_valid}
use Rattle.lease.specs.Notices.{with_num, pass_on, handled_at, on_peer, handle_new_grants, handle_do_revoke, handle_clear_held, raised_to, handle_notice, outdated, numbered, acted_under, accepted_of}
use Rattle.lease.specs.Calls.{quiet_at, advance_to, assume_unknown_grants, refresh_pass, attempt_refresh, clock_of, set_drift}
use Rattle.lease.specs.RecordCheck.{row_valid, row_empty, row_valid_at, rows_valid, limits_valid, record_valid, quiet_valid}
use Rattle.lease.specs.Refusals.{peer_refusal, notice_refusal, advance_refusal}
use Rattle.lease.specs.SetUp.{setup_refusal, fresh}
use Rattle.lease.specs.Verdicts.{drift}
use Rattle.lease.proofs.Judged.{peer-below, peer-other}
use Rattle.lease.proofs.RecordCheck.{limits_of, rows_of, row-of, own-row, rest-empty}
use Rattle.lease.proofs.Tables.{below-done, below_rest, length-below}
use Rattle.lease.proofs.Tests.{both, fst-of, snd-of}
use Rattle.reachable.specs.Reachable.{Typed}
use Rattle.reachable.proofs.Numbers.{Same, same, apart, sameb, Below, below, above, belowb, AtMost, at_most, beyond, lebb, and-true, never}
use Rattle.reachable.proofs.Rows.{RowOk, peer-notice-row, new-grants-row, do-revoke-row, clear-held-row, higher-number-row, refresh-row, advance-row, deadline-valid, deadline-ok, row-valid, row-ok}

-- ---- the row of an id after a pass

abbrev pub is_peer : ℕ → ℕ → ℕ → Bool
is_peer n me p = cond (ltb p n) (not (eqb p me)) false

-- past the last row there is none before and after
module _ (m : Manager) (pass : Pass) (p : ℕ) (Q : Peer → Type 0) where
  pub passed-at : (is_peer m.population m.me p ≡ true → Q (pass_row pass p (row_at m.peers p)).peer) → (is_peer m.population m.me p ≡ false → Q (row_at m.peers p))
      → (length m.peers ≤ p → Q empty_row) → Q (row_at (pass_on m pass).peers p)
  unfolding pass_over
  passed-at isp notp past = go (belowb p (length m.peers)) (belowb p m.population) (sameb p m.me)
    where
      go : Below p (length m.peers) → Below p m.population → Same p m.me → Q (row_at (pass_on m pass).peers p)
      go (above s l) x y = subst Q (sym (get_or_past (pass_on m pass).peers p empty_row (rw (length-below m.population (row_after pass m.me) m.peers) l))) (past l)
      go (below s h) (below e l) (apart x k) = subst Q (sym (below-done m.population p (row_after pass m.me) m.peers empty_row l h ∙ rw (x, row_after))) (isp (rw (e, x)))
      go (below s h) (below e l) (same x k) = subst Q (sym (below-done m.population p (row_after pass m.me) m.peers empty_row l h ∙ rw (x, row_after))) (notp (rw (e, x)))
      go (below s h) (above e l) y = subst Q (sym (below_rest m.population p (row_after pass m.me) m.peers empty_row l)) (notp (rw e))

pub passed_length : (m : Manager) (pass : Pass) → length (pass_on m pass).peers ≡ length m.peers
unfolding pass_over
passed_length m pass = length-below m.population (row_after pass m.me) m.peers

-- the peer of a notice that is not refused, and an id that is none
pub peer-of : (n me q : ℕ) → peer_refusal n me q ≡ Ok tt → (q < n) × (q ≢ me)
peer-of n me q a = (peer-below n me q a, eqb-false q me (peer-other n me q a))

pub clash : {A : Type 0} (b : Bool) → b ≡ true → b ≡ false → A
clash b p q = never (sym q ∙ p)

pub no-peer-other : (n me p q : ℕ) → q < n → q ≢ me → is_peer n me p ≡ false → p ≢ q
no-peer-other n me p q l d a k = clash (is_peer n me p) (rw (k, lt-ltb q n l, ne_eqb q me d)) a

-- ---- what is used of drift

-- T, and 2T, as a record's clock has them
above_zero : (c : Clock) (d : ℕ) → is_settable c ≡ true → 100000000 ≤ d → d ≤ longest_in_use → 0 < drifted c d
above_zero c d k lo hi = clock-above-zero c (subst T (sym k) tt) d (omega arith) hi

at-most-hundredfold : (c : Clock) (d : ℕ) → is_settable c ≡ true → d ≤ longest_in_use → drifted c d ≤ 100 * d
at-most-hundredfold c d k hi = clock-at-most c (subst T (sym k) tt) d hi

-- a setting's clock is one that the record check takes
setting-valid : (x : Option ℤ) → Typed (drift x) → is_settable (clock_of x) ≡ true
setting-valid None f = refl
setting-valid (Some d) f = setting-found d f

-- ---- the limits

timeout-of : (m : Manager) → limits_valid m ≡ true → (100000000 ≤ m.expire_timeout) × (m.expire_timeout ≤ 10000000000)
unfolding limits_valid
timeout-of m v = grind (arith, v)

few : (m : Manager) → limits_valid m ≡ true → m.population ≤ capacity
unfolding limits_valid
few m v = grind (arith, v)

-- ---- a record whose sent deadlines reach `sent` past now, by the mark, whose held ones reach `held`, and the end of quiet time `quiet`

abbrev pub QuietOk : ℕ → Reading → Option Reading → Type 0
QuietOk quiet now None = Unit {0}
QuietOk quiet now (Some d) = (now.0 < d.0) × (d.0 ≤ now.0 + quiet)

pub record Bounded (sent : Bool → ℕ) (held quiet : ℕ) (m : Manager) : Type 0 where
  pub limits : limits_valid m ≡ true
  pub clock-valid : is_settable m.clock ≡ true
  pub quiet-ok : QuietOk quiet m.now m.quiet_timer
  pub rows : (p : ℕ) → p < capacity → RowOk sent held m.now (row_at m.peers p)
  pub others-empty : (p : ℕ) → p < capacity → is_peer m.population m.me p ≡ false → row_at m.peers p ≡ empty_row

module _ (sent : Bool → ℕ) (held quiet : ℕ) (m : Manager) (i : Bounded sent held quiet m) where
  -- another number and other rows
  relined : (num : LeaseNum) (l : List Peer) → ((p : ℕ) → p < capacity → RowOk sent held m.now (row_at l p))
      → ((p : ℕ) → p < capacity → is_peer m.population m.me p ≡ false → row_at l p ≡ empty_row) → Bounded sent held quiet (with_num m num l)
  unfolding limits_valid
  relined num l g e = record { limits = i.limits; clock-valid = i.clock-valid; quiet-ok = i.quiet-ok; rows = g; others-empty = e }

  passed-others : (pass : Pass) (p : ℕ) → p < capacity → is_peer m.population m.me p ≡ false → row_at (pass_on m pass).peers p ≡ empty_row
  passed-others pass p h n = passed-at m pass p (λ r. r ≡ empty_row) (λ y. clash (is_peer m.population m.me p) y n) (λ z. i.others-empty p h n) (λ z. refl)

  -- after a pass whose rule keeps rows so
  passed : (pass : Pass) (num : LeaseNum) → ((p : ℕ) (row : Peer) → RowOk sent held m.now row → RowOk sent held m.now (pass_row pass p row).peer)
      → Bounded sent held quiet (with_num m num (pass_on m pass).peers)
  passed pass num f =
      relined num (pass_on m pass).peers
      (λ p h. passed-at m pass p (λ r. RowOk sent held m.now r) (λ y. f p (row_at m.peers p) (i.rows p h)) (λ z. i.rows p h) (λ z. (tt, tt)))
      (passed-others pass)

  module _ (wide : (b : Bool) → 2000000000000 ≤ sent b) (wide_held : 1000000000000 ≤ held) where
    -- a notice about one peer
    on-peer-keeps : (q : ℕ) (w : PeerNotice) → peer_refusal m.population m.me q ≡ Ok tt → Bounded sent held quiet (on_peer m q w).manager
    unfolding on_peer
    on-peer-keeps q w a = relined m.active_num (set m.peers q after) (λ p h. go p h (sameb q p)) (λ p h n. get_or-set_other m.peers q p after empty_row (no-peer-other m.population m.me p q lq.0 lq.1 n) ∙ i.others-empty p h n)
      where
        after : Peer
        after = (handled_at m q w).peer

        lq : (q < m.population) × (q ≢ m.me)
        lq = peer-of m.population m.me q a

        small : q < capacity
        small = let x = lq.0 in let y = few m i.limits in omega arith

        t : (100000000 ≤ m.expire_timeout) × (m.expire_timeout ≤ 10000000000)
        t = timeout-of m i.limits

        good : RowOk sent held m.now after
        good =
            let lo = t.0 in let hi = t.1 in
            peer-notice-row sent held m.expire_timeout m.now m.clock q wide wide_held
            (above_zero m.clock m.expire_timeout i.clock-valid lo (omega arith)) (omega (arith, at-most-hundredfold m.clock m.expire_timeout i.clock-valid (omega arith)))
            (above_zero m.clock (2 * m.expire_timeout) i.clock-valid (omega arith) (omega arith)) (omega (arith, at-most-hundredfold m.clock (2 * m.expire_timeout) i.clock-valid (omega arith)))
            w (row_at m.peers q) (i.rows q small)

        at-q : Below q (length m.peers) → RowOk sent held m.now (row_at (set m.peers q after) q)
        at-q (below e l) = subst (RowOk sent held m.now) (sym (get_or-set_same m.peers q after empty_row l)) good
        at-q (above e l) = subst (RowOk sent held m.now) (sym (get_or_past (set m.peers q after) q empty_row (rw length-set l))) (tt, tt)

        go : (p : ℕ) → p < capacity → Same q p → RowOk sent held m.now (row_at (set m.peers q after) p)
        go p h (same x k) = subst (λ y. RowOk sent held m.now (row_at (set m.peers q after) y)) k (at-q (belowb q (length m.peers)))
        go p h (apart x k) = subst (RowOk sent held m.now) (sym (get_or-set_other m.peers q p after empty_row (λ z. k (sym z)))) (i.rows p h)

    handle-keeps : (x : LeaseNotice) → notice_refusal m.population m.me x ≡ Ok tt → Bounded sent held quiet (handle_notice m x).manager
    unfolding handle_notice handle_new_grants handle_do_revoke handle_clear_held
    handle-keeps (N.NewGrants to bar) a = passed (P.NewGrants to) m.active_num (λ p row k. new-grants-row sent held m.now (named to p) row k)
    handle-keeps (N.DoRevoke to) a = passed (P.DoRevoke to) m.active_num (λ p row k. do-revoke-row sent held m.now (named to p) row k)
    handle-keeps N.ClearHeld a = passed P.ClearHeld m.active_num (λ p row k. clear-held-row sent held m.now row k)
    handle-keeps (N.RecvLeaseMsg q msg) a = on-peer-keeps q (PN.RecvLeaseMsg msg) a
    handle-keeps (N.GrantTimeout q) a = on-peer-keeps q PN.GrantTimeout a
    handle-keeps (N.LeaseTimeout q) a = on-peer-keeps q PN.LeaseTimeout a

  pub raise-keeps : (num : LeaseNum) → Bounded sent held quiet (raised_to m num)
  unfolding raised_to
  raise-keeps num = passed P.HigherNumber num (λ p row k. higher-number-row sent held m.now row)

  -- a refresh
  pub refresh-keeps : sent true + 1000000000000 ≤ sent false → (set : Option Bitmap) → Bounded sent held quiet (attempt_refresh m set).manager
  unfolding attempt_refresh
  refresh-keeps w set =
      let t = timeout-of m i.limits in
      let lo = t.0 in let hi = t.1 in
      passed (refresh_pass m set) m.active_num
      (λ p row k. refresh-row sent held m.now (drifted m.clock m.expire_timeout) (named set p) (omega (arith, at-most-hundredfold m.clock m.expire_timeout i.clock-valid (omega arith))) w row k)

  -- a quiet start
  pub quiet-keeps : 2000000000000 ≤ quiet → Bounded sent held quiet (assume_unknown_grants m)
  unfolding assume_unknown_grants limits_valid
  quiet-keeps w =
      let t = timeout-of m i.limits in
      let lo = t.0 in let hi = t.1 in
      let p = above_zero m.clock (2 * m.expire_timeout) i.clock-valid (omega arith) (omega arith) in
      let b = at-most-hundredfold m.clock (2 * m.expire_timeout) i.clock-valid (omega arith) in
      record { limits = i.limits; clock-valid = i.clock-valid; quiet-ok = (omega arith, omega arith); rows = i.rows; others-empty = i.others-empty }

  -- a drift setting
  pub drift-keeps : (x : Option ℤ) → Typed (drift x) → Bounded sent held quiet (set_drift m x)
  unfolding set_drift limits_valid
  drift-keeps x f = record { limits = i.limits; clock-valid = setting-valid x f; quiet-ok = i.quiet-ok; rows = i.rows; others-empty = i.others-empty }

  -- an advance
  pub advance-keeps : (to : Reading) → m.now.0 ≤ to.0 → reading_valid to ≡ true → Bounded sent held quiet (advance_to m to).manager
  unfolding advance_to limits_valid
  advance-keeps to l r = record {
    limits = limits-later;
    clock-valid = i.clock-valid;
    quiet-ok = quiet-later m.quiet_timer i.quiet-ok;
    rows = λ p h. passed-at m (P.Advance to) p (λ r. RowOk sent held to r) (λ y. advance-row sent held m.now to l (row_at m.peers p) (i.rows p h))
        (λ n. subst (RowOk sent held to) (sym (i.others-empty p h n)) (tt, tt)) (λ z. (tt, tt));
    others-empty = passed-others (P.Advance to);
  }
    where
      limits-later : limits_valid (advance_to m to).manager ≡ true
      limits-later =
          let tp = timeout_valid m.expire_timeout && population_valid m.population in
          let or = own_valid m.me m.population && reading_valid m.now in
          rw (fst-of tp or i.limits, fst-of (own_valid m.me m.population) (reading_valid m.now) (snd-of tp or i.limits), r) refl

      quiet-later : (q : Option Reading) → QuietOk quiet m.now q → QuietOk quiet to (quiet_at to q)
      quiet-later None k = tt
      quiet-later (Some d) k = go (lebb d.0 to.0)
        where
          go : AtMost d.0 to.0 → QuietOk quiet to (quiet_at to (Some d))
          go (at_most q s) = rw q tt
          go (beyond q s) = rw q (omega arith)

-- a notice that is not refused
pub accepted-keeps : (sent : Bool → ℕ) (held quiet : ℕ) → ((b : Bool) → 2000000000000 ≤ sent b) → 1000000000000 ≤ held → (m : Manager) → Bounded sent held quiet m
    → (num : LeaseNum) (x : LeaseNotice) → notice_refusal m.population m.me x ≡ Ok tt → Bounded sent held quiet (accepted_of m num x).manager
unfolding accepted_of raised_to
accepted-keeps sent held quiet wide wide_held m i num x a = go (ltb num.0 m.active_num.0) (ltb m.active_num.0 num.0)
  where
    go : (p q : Bool) → Bounded sent held quiet (cond p (record { lines = numbered num false (outdated x); manager = m })
        (cond q (acted_under num true (handle_notice (raised_to m num) x)) (acted_under num false (handle_notice m x)))).manager
    go true q = i
    go false true = handle-keeps sent held quiet (raised_to m num) (raise-keeps sent held quiet m i num) wide wide_held x a
    go false false = handle-keeps sent held quiet m i wide wide_held x a

-- ---- set-up

-- a test that refuses where it is true, or where it is false, passed
pub passed-by : (b : Bool) (k : Refusal) (x : Result (Unit {0}) Refusal) → cond b (Err k) x ≡ Ok tt → (b ≡ false) × (x ≡ Ok tt)
passed-by true k x h = absurd (let z : ◌≡◌ {A = ℕ} 0 1 = cc in omega arith)
passed-by false k x h = (refl, h)

pub met-by : (b : Bool) (k : Refusal) (x : Result (Unit {0}) Refusal) → cond (not b) (Err k) x ≡ Ok tt → (b ≡ true) × (x ≡ Ok tt)
met-by true k x h = (refl, h)
met-by false k x h = absurd (let z : ◌≡◌ {A = ℕ} 0 1 = cc in omega arith)

pub fresh-bounded : (sent : Bool → ℕ) (held quiet me n t hb : ℕ) (now : Reading) → setup_refusal me n t hb now ≡ Ok tt → Bounded sent held quiet (fresh me n t now)
unfolding fresh limits_valid
fresh-bounded sent held quiet me n t hb now a =
    let a1 = met-by (timeout_valid t) R.TimeoutOutOfRange _ a in
    let a2 = passed-by (leb t (2 * hb)) R.HeartbeatTooSlow _ a1.1 in
    let a3 = met-by (population_valid n) R.PopulationOutOfRange _ a2.1 in
    let a4 = met-by (own_valid me n) R.OwnNotBelowPopulation _ a3.1 in
    let a5 = met-by (reading_valid now) R.ReadingTooHigh (Ok tt) a4.1 in
    record {
      limits = rw (a1.0, a3.0, a4.0, a5.0) refl;
      clock-valid = refl;
      quiet-ok = tt;
      rows = λ p h. subst (RowOk sent held now) (sym (get_or-replicate capacity p empty_row empty_row h)) (tt, tt);
      others-empty = λ p h k. get_or-replicate capacity p empty_row empty_row h;
    }

-- the readings of an advance that is not refused
pub in-time : (now to : Reading) → advance_refusal now to ≡ Ok tt → (now.0 ≤ to.0) × (reading_valid to ≡ true)
in-time now to a =
    let x = met-by (reading_valid to) R.ReadingTooHigh (cond (ltb to.0 now.0) (Err R.ReadingBelowPresent) (Ok tt)) a in
    let y = passed-by (ltb to.0 now.0) R.ReadingBelowPresent (Ok tt) x.1 in
    (ltb-false to.0 now.0 y.0, x.0)

-- ---- such a record is valid

module _ (sent : Bool → ℕ) (held quiet : ℕ) (near : (b : Bool) → sent b ≤ farthest) (near_held : held ≤ farthest) (near_quiet : quiet ≤ farthest) (m : Manager) (i : Bounded sent held quiet m) where
  quiet-valid : quiet_valid m.now m.quiet_timer ≡ true
  quiet-valid = go m.quiet_timer i.quiet-ok
    where
      go : (q : Option Reading) → QuietOk quiet m.now q → quiet_valid m.now q ≡ true
      go None h = refl
      go (Some d) h = deadline-valid m.now d h.0 (omega arith)

  row-valid-at : (p : ℕ) → p < capacity → row_valid_at m.me m.population m.now p (row_at m.peers p) ≡ true
  unfolding row_valid_at row_empty
  row-valid-at p h = go (belowb p m.population) (sameb p m.me)
    where
      go : Below p m.population → Same p m.me → row_valid_at m.me m.population m.now p (row_at m.peers p) ≡ true
      go (below e l) (apart x k) = rw (e, x) (row-valid sent held near near_held m.now (row_at m.peers p) (i.rows p h))
      go (below e l) (same x k) = rw (e, x, i.others-empty p h (rw (e, x)))
      go (above e l) s = rw (e, i.others-empty p h (rw e))

  rows-valid : (k : ℕ) → k ≤ capacity → rows_valid m.me m.population m.now m.peers k ≡ true
  unfolding rows_valid
  rows-valid zero h = refl
  rows-valid (suc k) h = and-true (rows_valid m.me m.population m.now m.peers k) (row_valid_at m.me m.population m.now k (row_at m.peers k)) (rows-valid k (omega arith)) (row-valid-at k (omega arith))

  pub record-valid : record_valid m ≡ true
  unfolding record_valid
  record-valid =
      and-true (limits_valid m && rows_valid m.me m.population m.now m.peers capacity) (is_settable m.clock && quiet_valid m.now m.quiet_timer)
      (and-true (limits_valid m) (rows_valid m.me m.population m.now m.peers capacity) i.limits (rows-valid capacity (omega arith)))
      (and-true (is_settable m.clock) (quiet_valid m.now m.quiet_timer) i.clock-valid quiet-valid)

-- ---- a valid record is such a record

-- a row that has to be empty is so
pub no-peer-empty : (m : Manager) → record_valid m ≡ true → (p : ℕ) → p < capacity → is_peer m.population m.me p ≡ false → row_at m.peers p ≡ empty_row
no-peer-empty m v p h n = go (belowb p m.population) (sameb p m.me)
  where
    go : Below p m.population → Same p m.me → row_at m.peers p ≡ empty_row
    go (below e l) (apart x k) = clash (is_peer m.population m.me p) (rw (e, x)) n
    go (below e l) (same x k) = rw k (own-row m v)
    go (above e l) s = rest-empty m v p l h

-- and the row of a peer is valid
pub peer-valid : (m : Manager) → record_valid m ≡ true → (p : ℕ) → p < capacity → is_peer m.population m.me p ≡ true → row_valid m.now (row_at m.peers p) ≡ true
unfolding row_valid_at
peer-valid m v p h n = go (belowb p m.population) (sameb p m.me) (row-of m.me m.population m.now m.peers capacity p (rows_of m v) h)
  where
    go : Below p m.population → Same p m.me → row_valid_at m.me m.population m.now p (row_at m.peers p) ≡ true → row_valid m.now (row_at m.peers p) ≡ true
    go (below e l) (apart x k) r = rw (e, x) at r
    go (below e l) (same x k) r = clash (is_peer m.population m.me p) n (rw (e, x))
    go (above e l) s r = clash (is_peer m.population m.me p) n (rw e)

-- where its sent deadlines are near enough
pub bounded-of : (sent : Bool → ℕ) (m : Manager) → record_valid m ≡ true
    → ((p : ℕ) → p < m.population → row_valid m.now (row_at m.peers p) ≡ true → sent_deadline (row_at m.peers p) ≤ m.now.0 + sent (row_at m.peers p).refresh_mark)
    → Bounded sent farthest farthest m
unfolding record_valid
bounded-of sent m v near = record {
  limits = limits_of m v;
  clock-valid = fst-of (is_settable m.clock) (quiet_valid m.now m.quiet_timer) rest;
  quiet-ok = quiet m.quiet_timer (snd-of (is_settable m.clock) (quiet_valid m.now m.quiet_timer) rest);
  rows = rows;
  others-empty = no-peer-empty m v;
}
  where
    rest : (is_settable m.clock && quiet_valid m.now m.quiet_timer) ≡ true
    rest = snd-of (limits_valid m && rows_valid m.me m.population m.now m.peers capacity) (is_settable m.clock && quiet_valid m.now m.quiet_timer) v

    quiet : (q : Option Reading) → quiet_valid m.now q ≡ true → QuietOk farthest m.now q
    quiet None e = tt
    quiet (Some d) e = deadline-ok m.now d e

    rows : (p : ℕ) → p < capacity → RowOk sent farthest m.now (row_at m.peers p)
    rows p h = go (is_peer m.population m.me p) refl
      where
        go : (b : Bool) → is_peer m.population m.me p ≡ b → RowOk sent farthest m.now (row_at m.peers p)
        go false n = subst (RowOk sent farthest m.now) (sym (no-peer-empty m v p h n)) (tt, tt)
        go true n =
            let r = peer-valid m v p h n in
            row-ok sent farthest (omega arith) m.now (row_at m.peers p) r (near p (ltb-true p m.population (both (ltb p m.population) (not (eqb p m.me)) n).0) r)
