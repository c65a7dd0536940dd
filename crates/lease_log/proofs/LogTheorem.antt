-- The log theorem of the rules: after any list of calls from an accepted set-up, refused ones and questions included, the log decides the
-- grant set, the lease set and the count; and no record on the way is refused with 15. Assumes nothing.
use Rattle.std.specs.Prelude.{Option, None, Some, Result, Ok, Err, ℤ}
use mathlib.Core.Path.{◌≡◌, refl, ap, sym, subst, ◌∙◌}
use mathlib.Core.List.{List, [], ◌∷◌}
use mathlib.Core.Bool.{Bool, true, false, not, cond}
use Prim.Native.Nat.{ℕ, ◌+◌, ◌*◌, ◌<◌}
use native.Mathlib.Omega.{arith}
use lib.Dec.{ltb, eqb}
use lib.ListN.{length-replicate, get_or-replicate}
use borrow.Author.Tests.{lt-ltb, le-ltb}
use Rattle.lease.specs.Bitmaps.{capacity, bitmap_of}
use Rattle.lease.specs.Sets.{one, count_where}
use Rattle.bitmap.proofs.SetsLemmas.{ids_where-same, count_where-same}
use Rattle.lease.specs.declared.Answered.{Answered}
use Rattle.lease.specs.declared.Refusal.{Refusal}
use Rattle.lease.specs.declared.Lines.{Lines}
use Rattle.lease.specs.Types.{Bitmap, Reading}
use Rattle.lease.specs.Timers.{drifted}
use Rattle.lease.specs.declared.LeaseNum.{LeaseNum}
use Rattle.lease.specs.declared.LeaseNotice.{LeaseNotice}
use Rattle.lease.specs.declared.Manager.{Manager}
use Rattle.lease.specs.declared.Advanced.{Advanced}
use Rattle.lease.specs.declared.LeaseNotice.TheVariants as N
use Rattle.lease.specs.Pass as P
use Rattle.lease.specs.Rows.{row_at, empty_row, granted, active_entry}
use Rattle.lease.specs.Passes.{is_first, pass_over}
use Rattle.lease.specs.RecordCheck.{record_valid}
use Rattle.lease.specs.Notices.{acted_under, on_peer, handle_new_grants, handle_do_revoke, handle_clear_held, raised_to, handle_notice, accepted_of, outdated, numbered}
use Rattle.lease.specs.Calls.{is_quiet, advance_to, assume_unknown_grants, attempt_refresh, set_drift, grant_set, lease_set, lease_cnt}
use Rattle.lease.specs.Rules.{grant_set_of, lease_set_of, lease_cnt_of, time_left_of, notice_given, notice_of, advance_of, quiet_of, refresh_of, drift_of}
use Rattle.lease.specs.SetUp.{fresh, setup_of}
use Rattle.lease.specs.Refusals.{notice_refusal, advance_refusal, refresh_refusal}
use Rattle.lease.proofs.Judged.{judged-by, plain_of}
use Rattle.lease.proofs.RecordCheck.{few-of}
use Rattle.lease.specs.Verdicts.{refused, done, Verdict, Call, notice, advance, quiet-start, refresh, drift, grant-set, lease-set, lease-cnt, time-left, by_notice, by_advance, by_plain, by_set, by_count, by_time_left, verdict, lines_of}
use Rattle.reachable.specs.Reachable.{AllTyped, left_by, Reachable, set-up, called}
use Rattle.reachable.proofs.Numbers.{Same, same, apart, sameb}
use Rattle.reachable.proofs.Records.{no-peer-empty, in-time}
use Rattle.reachable.proofs.Reached.{accepted, reachable-valid}
use Rattle.lease_log.specs.LogTheorem.{grants_by, leases_by, lease_count_by, LogDecides, run_of, LogTheorem}
use Rattle.lease_log.specs.Log.{stamped, open_lines, is_open, promise_lines, ended_lines, no_line, last_held, QuietStart, never, since, Journal, noted, journal_at, Run, stepped, run_from, quiet_since, quiet_time, is_leased}
use Rattle.lease_log.proofs.Sums.{sum_below-cong, count_where-sum}
use Rattle.lease_log.proofs.LogFacts.{balance}
use Rattle.lease_log.proofs.RowFacts.{Tied, row-grant, row_open, row-lease}
use Rattle.lease_log.proofs.Invariant.{QuietTied, Inv, longer, notice-inv, advance-inv, quiet-inv, drift-inv, refresh-inv}

-- ---- own id, population and T stay

pub record Kept (m m' : Manager) : Type 0 where
  pub me-kept : m'.me ≡ m.me
  pub n_kept : m'.population ≡ m.population
  pub t-kept : m'.expire_timeout ≡ m.expire_timeout

kept : (m : Manager) → Kept m m
kept m = record { me-kept = refl; n_kept = refl; t-kept = refl }

handle-notice-kept : (m : Manager) (x : LeaseNotice) → Kept m (handle_notice m x).manager
unfolding handle_notice on_peer handle_new_grants handle_do_revoke handle_clear_held
handle-notice-kept m (N.NewGrants to bar) = record { me-kept = refl; n_kept = refl; t-kept = refl }
handle-notice-kept m (N.DoRevoke to) = record { me-kept = refl; n_kept = refl; t-kept = refl }
handle-notice-kept m N.ClearHeld = record { me-kept = refl; n_kept = refl; t-kept = refl }
handle-notice-kept m (N.RecvLeaseMsg q msg) = record { me-kept = refl; n_kept = refl; t-kept = refl }
handle-notice-kept m (N.GrantTimeout q) = record { me-kept = refl; n_kept = refl; t-kept = refl }
handle-notice-kept m (N.LeaseTimeout q) = record { me-kept = refl; n_kept = refl; t-kept = refl }

accepted-kept : (m : Manager) (num : LeaseNum) (x : LeaseNotice) → Kept m (accepted_of m num x).manager
unfolding accepted_of raised_to
accepted-kept m num x = go (ltb num.0 m.active_num.0) (ltb m.active_num.0 num.0)
  where
    up : Kept m (handle_notice (raised_to m num) x).manager
    up = let k = handle-notice-kept (raised_to m num) x in record { me-kept = k.me-kept; n_kept = k.n_kept; t-kept = k.t-kept }

    go : (a b : Bool)
        → Kept m (cond a (record { lines = numbered num false (outdated x); manager = m }) (cond b (acted_under num true (handle_notice (raised_to m num) x)) (acted_under num false (handle_notice m x)))).manager
    go true b = kept m
    go false true = up
    go false false = handle-notice-kept m x

-- ---- each call keeps the tie

abbrev RunInv : Run → Run → Type 0
RunInv r r' = Inv r'.manager r'.journal × Kept r.manager r'.manager

module _ (r : Run) (i : Inv r.manager r.journal) (v : record_valid r.manager ≡ true) where
  abbrev m : Manager
  m = r.manager

  abbrev j : Journal
  j = r.journal

  same-run : RunInv r r
  same-run = (i, kept m)

  notice-step : (num : LeaseNum) (x : LeaseNotice) → RunInv r (stepped r (notice num x) (verdict m (notice num x)))
  unfolding notice_of
  notice-step num x =
      judged-by (λ (a : Answered Lines). RunInv r (stepped r (notice num x) (by_notice a.outcome a.manager))) (record_valid m) (notice_refusal m.population m.me x)
      (λ k. record { outcome = Err k; manager = m }) (notice_given (accepted_of m num x)) (λ k. same-run) (λ z. (ok z, accepted-kept m num x))
    where
      ok : notice_refusal m.population m.me x ≡ Ok tt → Inv (accepted_of m num x).manager (noted j (notice num x) (lines_of (accepted_of m num x).lines))
      ok z = subst (λ n. Inv (accepted_of m num x).manager (longer j (stamped n j.clock (lines_of (accepted_of m num x).lines)))) (sym i.same-now)
          (subst (λ c. Inv (accepted_of m num x).manager (longer j (stamped m.now c (lines_of (accepted_of m num x).lines)))) (sym i.same-clock)
          (notice-inv m j i v num x z))

  advance-step : (to : Reading) → RunInv r (stepped r (advance to) (verdict m (advance to)))
  unfolding advance_of advance_to
  advance-step to =
      judged-by (λ (a : Answered Advanced). RunInv r (stepped r (advance to) (by_advance a.outcome a.manager))) (record_valid m) (advance_refusal m.now to)
      (λ k. record { outcome = Err k; manager = m }) (advance_to m to) (λ k. same-run)
      (λ z. (advance-inv m j i v to (in-time m.now to z).0, record { me-kept = refl; n_kept = refl; t-kept = refl }))

  -- a quiet start and a drift setting, which 15 alone refuses
  plain_step : (c : Call) (next : Manager) → RunInv r (stepped r c (done [] next))
      → RunInv r (stepped r c (by_plain (plain_of m next).outcome (plain_of m next).manager))
  plain_step c next ok =
      judged-by (λ (a : Answered (Unit {0})). RunInv r (stepped r c (by_plain a.outcome a.manager))) (record_valid m) (Ok tt)
      (λ k. record { outcome = Err k; manager = m }) (record { outcome = Ok tt; manager = next }) (λ k. same-run) (λ z. ok)

  quiet_step : RunInv r (stepped r quiet-start (verdict m quiet-start))
  unfolding quiet_of assume_unknown_grants
  quiet_step = plain_step quiet-start (assume_unknown_grants m) (quiet-inv m j i, record { me-kept = refl; n_kept = refl; t-kept = refl })

  drift-step : (x : Option ℤ) → RunInv r (stepped r (drift x) (verdict m (drift x)))
  unfolding drift_of set_drift
  drift-step x = plain_step (drift x) (set_drift m x) (drift-inv m j i x, record { me-kept = refl; n_kept = refl; t-kept = refl })

  refresh-step : (set : Option Bitmap) → RunInv r (stepped r (refresh set) (verdict m (refresh set)))
  unfolding refresh_of attempt_refresh
  refresh-step set =
      judged-by (λ (a : Answered Bitmap). RunInv r (stepped r (refresh set) (by_set a.outcome a.manager))) (record_valid m) (refresh_refusal set)
      (λ k. record { outcome = Err k; manager = m }) (attempt_refresh m set) (λ k. same-run)
      (λ z. (refresh-inv m j i v set, record { me-kept = refl; n_kept = refl; t-kept = refl }))

  -- a question changes nothing
  set-step : (o : Result Bitmap Refusal) (c : Call) → noted j c [] ≡ j → RunInv r (stepped r c (by_set o m))
  set-step (Err k) c e = same-run
  set-step (Ok b) c e = (subst (λ x. Inv m x) (sym e) i, kept m)

  count-step : (o : Result ℕ Refusal) → RunInv r (stepped r lease-cnt (by_count o m))
  count-step (Err k) = same-run
  count-step (Ok n) = same-run

  left_step : (o : Result (Option ℕ) Refusal) (id : ℕ) → RunInv r (stepped r (time-left id) (by_time_left o m))
  left_step (Err k) id = same-run
  left_step (Ok x) id = same-run

  call_step : (c : Call) → RunInv r (stepped r c (verdict m c))
  call_step (notice num x) = notice-step num x
  call_step (advance to) = advance-step to
  call_step quiet-start = quiet_step
  call_step (refresh set) = refresh-step set
  call_step (drift x) = drift-step x
  call_step grant-set = set-step (grant_set_of m) grant-set refl
  call_step lease-set = set-step (lease_set_of m) lease-set refl
  call_step lease-cnt = count-step (lease_cnt_of m)
  call_step (time-left id) = left_step (time_left_of m id) id

pub left-stepped : (r : Run) (c : Call) (v : Verdict) → (stepped r c v).manager ≡ left_by r.manager v
left-stepped r c (refused k) = refl
left-stepped r c (done l m) = refl

-- and so does a list of calls, from a reachable record on
run-inv : (l : List Call) → AllTyped l → (r : Run) → Reachable r.manager → Inv r.manager r.journal → RunInv r (run_from r l) × Reachable (run_from r l).manager
run-inv [] f r k i = ((i, kept r.manager), k)
run-inv (c ∷ l) f r k i =
    let a = call_step r i (reachable-valid r.manager k) c in
    let next = subst (λ x. Reachable x) (sym (left-stepped r c (verdict r.manager c))) (called r.manager k c f.0) in
    let b = run-inv l f.1 (stepped r c (verdict r.manager c)) next a.0 in
    ((b.0.0, record { me-kept = b.0.1.me-kept ∙ a.1.me-kept; n_kept = b.0.1.n_kept ∙ a.1.n_kept; t-kept = b.0.1.t-kept ∙ a.1.t-kept }), b.1)

-- ---- what the tie says of a valid record

module _ (m : Manager) (j : Journal) (i : Inv m j) (v : record_valid m ≡ true) where
  abbrev t : ℕ
  t = m.expire_timeout

  abbrev n : ℕ
  n = m.population

  pub same-quiet : is_quiet m.now m.quiet_timer ≡ quiet_time t j
  same-quiet = go m.quiet_timer j.quiet i.quiet_ok
    where
      go : (q : Option Reading) (k : QuietStart) → QuietTied t m.now q k → is_quiet m.now q ≡ quiet_since t j.now k
      go None never h = refl
      go None (since r c) h = rw i.same-now (sym (le-ltb m.now.0 (r.0 + drifted c (2 * t)) h))
      go (Some d) never h = absurd h
      go (Some d) (since r c) h = rw (i.same-now, h)

  row-at : (p : ℕ) → p < n → Tied t m.now (row_at m.peers p) (open_lines p j.log) (last_held p j.log)
  row-at p h = i.rows p (let x = few-of m v in omega arith)

  -- the own row is empty
  own-empty : (p : ℕ) → p < n → eqb p m.me ≡ true → row_at m.peers p ≡ empty_row
  own-empty p h e = no-peer-empty m v p (let x = few-of m v in omega arith) (rw (lt-ltb p n h, e))

  everyone-is : (p : ℕ) → p < n → is_first P.Everyone m.me m.peers p ≡ not (eqb p m.me)
  everyone-is p h = go (sameb p m.me)
    where
      go : Same p m.me → is_first P.Everyone m.me m.peers p ≡ not (eqb p m.me)
      go (same e k) = rw (e, is_first)
      go (apart e k) = rw (e, is_first)

  pub open_is : (p : ℕ) → p < n → is_first P.Granted m.me m.peers p ≡ is_open j.log p
  open_is p h = go (sameb p m.me)
    where
      agree : granted (row_at m.peers p).promise_sent ≡ is_open j.log p
      agree = row-grant t m.now (row_at m.peers p) (open_lines p j.log) (last_held p j.log) (row-at p h)

      go : Same p m.me → is_first P.Granted m.me m.peers p ≡ is_open j.log p
      go (same e k) = rw (e, is_first) (subst (λ r. granted r.promise_sent ≡ is_open j.log p) (own-empty p h e) agree)
      go (apart e k) = rw (e, is_first) agree

  pub lease-is : (p : ℕ) → p < n → is_first (P.Leased m.now) m.me m.peers p ≡ is_leased t j p
  lease-is p h = go (sameb p m.me)
    where
      agree : active_entry m.now (row_at m.peers p).promise_held ≡ is_leased t j p
      agree = rw i.same-now (row-lease t m.now (row_at m.peers p) (open_lines p j.log) (last_held p j.log) (row-at p h))

      go : Same p m.me → is_first (P.Leased m.now) m.me m.peers p ≡ is_leased t j p
      go (same e k) = rw (e, is_first) (subst (λ r. active_entry m.now r.promise_held ≡ is_leased t j p) (own-empty p h e) agree)
      go (apart e k) = rw (e, is_first) agree

  grants-are : grant_set m ≡ grants_by m.me n t j
  unfolding grant_set pass_over
  grants-are =
      rw (
        same-quiet,
        ids_where-same (is_first P.Everyone m.me m.peers) (λ p. not (eqb p m.me)) n everyone-is,
        ids_where-same (is_first P.Granted m.me m.peers) (is_open j.log) n open_is,
      )

  leases-are : lease_set m ≡ leases_by n t j
  unfolding lease_set pass_over
  leases-are = ap (bitmap_of n) (ids_where-same (is_first (P.Leased m.now) m.me m.peers) (is_leased t j) n lease-is)

  count-is : lease_cnt m ≡ lease_count_by n t j
  unfolding lease_cnt pass_over
  count-is = ap (λ x. 1 + x) (count_where-same (is_first (P.Leased m.now) m.me m.peers) (is_leased t j) n lease-is)

  balanced-is : promise_lines j.log ≡ ended_lines j.log + count_where (is_open j.log) n
  balanced-is =
      balance n j.log i.within
      ∙ ap (λ x. ended_lines j.log + x)
      (sum_below-cong n (λ p. open_lines p j.log) (λ p. one (is_open j.log p))
      (λ p h. row_open t m.now (row_at m.peers p) (open_lines p j.log) (last_held p j.log) (row-at p h))
      ∙ sym (count_where-sum n (is_open j.log)))

  decided : LogDecides m.me n t m j
  unfolding grant_set_of lease_set_of lease_cnt_of
  decided = record {
    grants = rw (v, grants-are);
    promises = balanced-is;
    leases = rw (v, leases-are);
    count = rw (v, count-is);
    never-15 = v;
  }

-- ---- set-up

fresh-inv : (me n t : ℕ) (now : Reading) → Inv (fresh me n t now) (journal_at now)
unfolding fresh
fresh-inv me n t now = record {
  sized = length-replicate capacity empty_row;
  same-now = refl;
  same-clock = refl;
  quiet_ok = tt;
  top = refl;
  within = tt;
  rows = λ p h. subst (λ r. Tied t now r 0 no_line) (sym (get_or-replicate capacity p empty_row empty_row h)) (refl, tt);
}

-- ---- what an accepted set-up and a list of calls lead to

-- a valid record tied to its journal, of a manager with own id me, population n and T = t
pub record AfterRun (me n t : ℕ) (r : Run) : Type 0 where
  pub valid : record_valid r.manager ≡ true
  pub inv : Inv r.manager r.journal
  pub same-me : r.manager.me ≡ me
  pub same-n : r.manager.population ≡ n
  pub same-t : r.manager.expire_timeout ≡ t

pub after-run : (me n t hb : ℕ) (now : Reading) → (setup_of me n t hb now).outcome ≡ (Ok tt) → (calls : List Call) → AllTyped calls
    → AfterRun me n t (run_of me n t hb now calls)
unfolding fresh
after-run me n t hb now h calls f = record {
  valid = reachable-valid (run_from first calls).manager g.1;
  inv = g.0.0;
  same-me = g.0.1.me-kept ∙ ap (λ m. m.me) start;
  same-n = g.0.1.n_kept ∙ ap (λ m. m.population) start;
  same-t = g.0.1.t-kept ∙ ap (λ m. m.expire_timeout) start;
}
  where
    first : Run
    first = record { manager = (setup_of me n t hb now).manager; journal = journal_at now }

    start : (setup_of me n t hb now).manager ≡ fresh me n t now
    start = (accepted me n t hb now h).1

    g : RunInv first (run_from first calls) × Reachable (run_from first calls).manager
    g = run-inv calls f first (set-up me n t hb now h) (subst (λ m. Inv m (journal_at now)) (sym start) (fresh-inv me n t now))

-- ---- THE LOG THEOREM

pub log-theorem : LogTheorem
log-theorem me n t hb now h calls f = there
  where
    r : Run
    r = run_of me n t hb now calls

    end : Manager
    end = r.manager

    j : Journal
    j = r.journal

    e : AfterRun me n t r
    e = after-run me n t hb now h calls f

    here : LogDecides end.me end.population end.expire_timeout end j
    here = decided end j e.inv e.valid

    there : LogDecides me n t end j
    there =
        subst (λ x. LogDecides x n t end j) e.same-me
        (subst (λ x. LogDecides end.me x t end j) e.same-n (subst (λ x. LogDecides end.me end.population x end j) e.same-t here))
