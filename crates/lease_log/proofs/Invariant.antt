-- What ties a record to its journal, and that every accepted call on a valid record keeps it. Assumes nothing.
use Rattle.lease.specs.Bitmaps.{capacity}
use Rattle.std.specs.Prelude.{Option, None, Some, ℤ, Ok}
use mathlib.Core.Path.{◌≡◌, refl, ap, sym, subst, ◌∙◌}
use mathlib.Core.Logic.{◌≢◌}
use mathlib.Core.List.{List, [], ◌∷◌, ◌++◌, append_assoc, append-nil}
use mathlib.Core.Bool.{Bool, true, false, not, cond, ◌&&◌, ◌||◌}
use Prim.Native.Nat.{ℕ, ◌+◌, ◌*◌, ◌≤◌, ◌<◌}
use native.Mathlib.Nat.{le_refl}
use native.Mathlib.Omega.{arith}
use lib.Dec.{ltb, eqb}
use lib.ListN.{length, set, length-set}
use lib.Seq.{get_or-set_same, get_or-set_other}
use borrow.Author.Tests.{ne_eqb, lt-ltb, le-ltb}
use Rattle.lease.specs.declared.Bar.{Bar}
use Rattle.lease.specs.Types.{Bitmap, Reading}
use Rattle.lease.specs.Sets.{one}
use Rattle.lease.specs.Timers.{drifted}
use Rattle.lease.specs.declared.Peer.{Peer}
use Rattle.lease.specs.declared.LeaseNum.{LeaseNum}
use Rattle.lease.specs.declared.LeaseMsg.{LeaseMsg}
use Rattle.lease.specs.declared.LeaseAction.{LeaseAction}
use Rattle.lease.specs.declared.LeaseNotice.{LeaseNotice}
use Rattle.lease.specs.declared.PeerNotice.{PeerNotice}
use Rattle.lease.specs.declared.Handled.{Handled}
use Rattle.lease.specs.declared.Line.{Line}
use Rattle.lease.specs.declared.Manager.{Manager}
use Rattle.lease.specs.Pass.{Pass}
use Rattle.lease.specs.declared.LeaseMsg.TheVariants as M
use Rattle.lease.specs.declared.LeaseAction.TheVariants as A
use Rattle.lease.specs.declared.LeaseNotice.TheVariants as N
use Rattle.lease.specs.declared.PeerNotice.TheVariants as PN
use Rattle.lease.specs.declared.Actions.TheVariants as AS
use Rattle.lease.specs.Pass as P
use Rattle.lease.specs.Rows.{row_at, empty_row, present, granted}
use Rattle.lease.specs.Passes.{named, pass_row, advance_row}
use Rattle.lease.specs.Notices.{outdated, term_of, with_peers, pass_on, handled_at, on_peer, handle_new_grants, handle_do_revoke, handle_clear_held, raised_to, handle_notice, accepted_of}
use Rattle.lease.specs.Calls.{quiet_at, advance_to, assume_unknown_grants, refresh_pass, attempt_refresh, clock_of, set_drift}
use Rattle.lease.specs.RecordCheck.{record_valid}
use Rattle.lease.proofs.RecordCheck.{few-of}
use Rattle.lease.specs.Refusals.{peer_refusal, notice_refusal}
use Rattle.lease.specs.Verdicts.{lines_of}
use Rattle.lease_log.specs.Log.{LogLine, log-line, stamped, open_lines, Last, no_line, out, top_of, held_by, last_from, last_held, QuietStart, never, since, Journal}
use Rattle.reachable.proofs.Numbers.{Same, same, apart, sameb, Below, below, above, belowb, AtMost, at_most, beyond, lebb}
use Rattle.reachable.proofs.Rows.{sent-apart}
use Rattle.reachable.proofs.Records.{is_peer, passed-at, passed_length, peer-of, no-peer-empty, peer-valid}
use Rattle.reachable.proofs.Reached.{raised-valid}
use Rattle.lease_log.proofs.LogFacts.{open-append, top-append, last-append, Within, within-append, actions_of, lines_under, numbered-same, numbered-higher, About, ended-own, open_own, last-own, ended-other, open-other, last-other, top-lined, within-own}
use Rattle.lease_log.proofs.RowFacts.{Tied, peer-notice-row, peer-notice-about, new-grants-row, do-revoke-row, clear-held-row, higher-number-row, refresh-row, advance-row}

-- ---- THE TIE

-- the quiet timer, against the last quiet start
abbrev pub QuietTied : ℕ → Reading → Option Reading → QuietStart → Type 0
QuietTied t now None never = Unit {0}
QuietTied t now None (since r c) = r.0 + drifted c (2 * t) ≤ now.0
QuietTied t now (Some d) never = ⊥
QuietTied t now (Some d) (since r c) = d.0 ≡ r.0 + drifted c (2 * t)

pub record Inv (m : Manager) (j : Journal) : Type 0 where
  pub sized : length m.peers ≡ capacity
  pub same-now : j.now ≡ m.now
  pub same-clock : j.clock ≡ m.clock
  pub quiet_ok : QuietTied m.expire_timeout m.now m.quiet_timer j.quiet
  pub top : top_of 0 j.log ≡ m.active_num.0
  pub within : Within m.population j.log
  pub rows : (p : ℕ) → p < capacity → Tied m.expire_timeout m.now (row_at m.peers p) (open_lines p j.log) (last_held p j.log)

-- the journal with lines added
abbrev pub longer : Journal → List LogLine → Journal
longer j l = record { now = j.now; clock = j.clock; quiet = j.quiet; log = j.log ++ l }

moved : (t : ℕ) (now : Reading) {r r' : Peer} {o o' : ℕ} {h h' : Last} → r' ≡ r → o' ≡ o → h' ≡ h → Tied t now r o h → Tied t now r' o' h'
moved t now {r} {r'} {o} {o'} {h} {h'} a b c k = subst (λ x. Tied t now x o' h') (sym a) (subst (λ x. Tied t now r x h') (sym b) (subst (λ x. Tied t now r o x) (sym c) k))

module _ (m : Manager) (j : Journal) (i : Inv m j) (v : record_valid m ≡ true) where
  -- the row, the open lines and the last held-side line of a peer
  abbrev R : ℕ → Peer
  R p = row_at m.peers p

  abbrev O : ℕ → ℕ
  O p = open_lines p j.log

  abbrev H : ℕ → Last
  H p = last_held p j.log

  abbrev t : ℕ
  t = m.expire_timeout

  in_rows : (p : ℕ) → p < capacity → p < length m.peers
  in_rows p h = let z = i.sized in omega arith

  no-past : {A : Type 0} (p : ℕ) → p < capacity → length m.peers ≤ p → A
  no-past p h z = absurd (let s = i.sized in omega arith)

  -- ---- rows and lines replaced

  relined : (l : List Peer) (ys : List LogLine) → length l ≡ capacity → top_of m.active_num.0 ys ≡ m.active_num.0 → Within m.population ys
      → ((p : ℕ) → p < capacity → Tied t m.now (row_at l p) (open_lines p (j.log ++ ys)) (last_held p (j.log ++ ys)))
      → Inv (with_peers m l) (longer j ys)
  relined l ys z tp w g = record {
    sized = z;
    same-now = i.same-now;
    same-clock = i.same-clock;
    quiet_ok = i.quiet_ok;
    top = top-append 0 j.log ys ∙ ap (λ x. top_of x ys) i.top ∙ tp;
    within = within-append m.population j.log ys i.within w;
    rows = g;
  }

  -- ---- a pass with lines that change nobody's view: a broadcast, or none

  idle-open : (p : ℕ) (num : LeaseNum) (b : Bitmap) (msg : LeaseMsg) → open_lines p (j.log ++ (log-line num (A.BcastLeaseMsgs b msg) m.now m.clock ∷ [])) ≡ O p
  idle-open p num b msg = open-append p j.log (log-line num (A.BcastLeaseMsgs b msg) m.now m.clock ∷ []) ∙ omega arith

  cond_same : {A : Type 0} (b : Bool) (h : A) → cond b h h ≡ h
  cond_same true h = refl
  cond_same false h = refl

  idle-last : (p : ℕ) (num : LeaseNum) (b : Bitmap) (msg : LeaseMsg) → last_held p (j.log ++ (log-line num (A.BcastLeaseMsgs b msg) m.now m.clock ∷ [])) ≡ H p
  idle-last p num b msg = last-append p 0 no_line j.log (log-line num (A.BcastLeaseMsgs b msg) m.now m.clock ∷ []) ∙ cond_same (ltb num.0 (top_of 0 j.log)) (H p)

  -- a pass that keeps the rows' invariant, with no line
  passed-rows : (pass : Pass) → ((p : ℕ) → p < capacity → Tied t m.now (pass_row pass p (R p)).peer (O p) (H p)) → (p : ℕ) → p < capacity → Tied t m.now (row_at (pass_on m pass).peers p) (O p) (H p)
  passed-rows pass g p h = passed-at m pass p (λ r. Tied t m.now r (O p) (H p)) (λ y. g p h) (λ n. i.rows p h) (no-past p h)

  silent : {x : Manager} → Inv x j → Inv x (longer j [])
  silent {x} k = subst (λ l. Inv x (record { now = j.now; clock = j.clock; quiet = j.quiet; log = l })) (sym (append-nil j.log)) k

  passed-silent : (pass : Pass) → ((p : ℕ) → p < capacity → Tied t m.now (pass_row pass p (R p)).peer (O p) (H p)) → Inv (with_peers m (pass_on m pass).peers) j
  passed-silent pass g = subst (λ l. Inv (with_peers m (pass_on m pass).peers) (record { now = j.now; clock = j.clock; quiet = j.quiet; log = l })) (append-nil j.log)
      (relined (pass_on m pass).peers [] (passed_length m pass ∙ i.sized) refl tt
      (λ p h. moved t m.now {r = row_at (pass_on m pass).peers p} refl (ap (open_lines p) (append-nil j.log)) (ap (last_held p) (append-nil j.log)) (passed-rows pass g p h)))

  passed-bcast : (pass : Pass) (b : Bitmap) (msg : LeaseMsg) → ((p : ℕ) → p < capacity → Tied t m.now (pass_row pass p (R p)).peer (O p) (H p))
      → Inv (with_peers m (pass_on m pass).peers) (longer j (log-line m.active_num (A.BcastLeaseMsgs b msg) m.now m.clock ∷ []))
  passed-bcast pass b msg g =
      relined (pass_on m pass).peers (log-line m.active_num (A.BcastLeaseMsgs b msg) m.now m.clock ∷ []) (passed_length m pass ∙ i.sized) refl (tt, tt)
      (λ p h. moved t m.now {r = row_at (pass_on m pass).peers p} refl (idle-open p m.active_num b msg) (idle-last p m.active_num b msg) (passed-rows pass g p h))

  -- ---- NewGrants, DoRevoke, ClearHeld

  abbrev Handles : LeaseNotice → Type 0
  Handles x = Inv (handle_notice m x).manager (longer j (stamped m.now m.clock (lines_under m.active_num (actions_of (handle_notice m x).actions))))

  new-grants-inv : (to : Option Bitmap) (bar : Option Bar) → Handles (N.NewGrants to bar)
  unfolding handle_notice handle_new_grants
  new-grants-inv to bar = passed-bcast (P.NewGrants to) (pass_on m (P.NewGrants to)).first (M.Guard bar) (λ p h. new-grants-row t m.now (named to p) (R p) (O p) (H p) (i.rows p h))

  do-revoke-inv : (to : Option Bitmap) → Handles (N.DoRevoke to)
  unfolding handle_notice handle_do_revoke
  do-revoke-inv to = go (eqb (pass_on m (P.DoRevoke to)).first.bits 0)
    where
      g : (p : ℕ) → p < capacity → Tied t m.now (pass_row (P.DoRevoke to) p (R p)).peer (O p) (H p)
      g p h = do-revoke-row t m.now (named to p) (R p) (O p) (H p) (i.rows p h)

      go : (b : Bool) → Inv (with_peers m (pass_on m (P.DoRevoke to)).peers)
          (longer j (stamped m.now m.clock (lines_under m.active_num (actions_of (cond b AS.None (AS.One (A.BcastLeaseMsgs (pass_on m (P.DoRevoke to)).first M.Revoke)))))))
      go true = silent (passed-silent (P.DoRevoke to) g)
      go false = passed-bcast (P.DoRevoke to) (pass_on m (P.DoRevoke to)).first M.Revoke g

  clear-held-inv : Handles N.ClearHeld
  unfolding handle_notice handle_clear_held
  clear-held-inv =
      relined (pass_on m P.ClearHeld).peers ys (passed_length m P.ClearHeld ∙ i.sized) refl (tt, tt)
      (λ p h. moved t m.now {r = row_at (pass_on m P.ClearHeld).peers p} refl (still_open p) (last-append p 0 no_line j.log ys ∙ gone p)
      (passed-at m P.ClearHeld p (λ r. Tied t m.now r (O p) out) (λ y. clear-held-row t m.now (R p) (O p) (H p) (i.rows p h)) (λ n. bare p h n) (no-past p h)))
    where
      ys : List LogLine
      ys = log-line m.active_num A.LeaseCleared m.now m.clock ∷ []

      gone : (p : ℕ) → held_by p (top_of 0 j.log) (log-line m.active_num A.LeaseCleared m.now m.clock) (H p) ≡ out
      gone p = rw (i.top, le-ltb m.active_num.0 m.active_num.0 (le_refl m.active_num.0))

      still_open : (p : ℕ) → open_lines p (j.log ++ ys) ≡ O p
      still_open p = open-append p j.log ys ∙ omega arith

      -- the row of an id that is no peer is empty already
      bare : (p : ℕ) → p < capacity → is_peer m.population m.me p ≡ false → Tied t m.now (R p) (O p) out
      bare p h n = let k = subst (λ r. Tied t m.now r (O p) (H p)) (no-peer-empty m v p h n) (i.rows p h) in
          subst (λ r. Tied t m.now r (O p) out) (sym (no-peer-empty m v p h n)) (k.0, tt)

  -- ---- about one peer

  peer-inv : (q : ℕ) (w : PeerNotice) → peer_refusal m.population m.me q ≡ Ok tt
      → Inv (on_peer m q w).manager (longer j (stamped m.now m.clock (lines_under m.active_num (actions_of (on_peer m q w).actions))))
  unfolding on_peer
  peer-inv q w a =
      relined (set m.peers q st.peer) ys (length-set m.peers q st.peer ∙ i.sized) (top-lined m.active_num m.now m.clock ds)
      (within-own m.active_num m.now m.clock q m.population known.0 ds about)
      (λ p h. go p h (sameb q p))
    where
      known : (q < m.population) × (q ≢ m.me)
      known = peer-of m.population m.me q a

      st : Handled
      st = handled_at m q w

      ds : List LeaseAction
      ds = actions_of st.actions

      about : About q ds
      about = peer-notice-about (term_of m) q w (R q)

      ys : List LogLine
      ys = stamped m.now m.clock (lines_under m.active_num ds)

      last-here : (p : ℕ) → last_held p (j.log ++ ys) ≡ last_from p m.active_num.0 (H p) ys
      last-here p = last-append p 0 no_line j.log ys ∙ ap (λ x. last_from p x (H p) ys) i.top

      lq : q < capacity
      lq = let x = known.0 in let y = few-of m v in omega arith

      guard-alone : (not (present (R q).guard_sent) || not (granted (R q).promise_sent)) ≡ true
      guard-alone = sent-apart m.now (R q) (peer-valid m v q lq (rw (lt-ltb q m.population known.0, ne_eqb q m.me known.1)))

      at-q : Tied t m.now (row_at (set m.peers q st.peer) q) (open_lines q (j.log ++ ys)) (last_held q (j.log ++ ys))
      at-q = moved t m.now (get_or-set_same m.peers q st.peer empty_row (in_rows q lq))
          (open-append q j.log ys ∙ rw (ended-own m.active_num m.now m.clock q ds about, open_own m.active_num m.now m.clock q ds about))
          (last-here q ∙ last-own m.active_num m.now m.clock q ds about (H q))
          (peer-notice-row t m.now m.clock q w (R q) (O q) (H q) guard-alone (i.rows q lq))

      go : (p : ℕ) → p < capacity → Same q p → Tied t m.now (row_at (set m.peers q st.peer) p) (open_lines p (j.log ++ ys)) (last_held p (j.log ++ ys))
      go p h (same x k) = subst (λ y. Tied t m.now (row_at (set m.peers q st.peer) y) (open_lines y (j.log ++ ys)) (last_held y (j.log ++ ys))) k at-q
      go p h (apart x k) = moved t m.now (get_or-set_other m.peers q p st.peer empty_row (λ z. k (sym z)))
          (open-append p j.log ys ∙ rw (ended-other m.active_num m.now m.clock q p k ds about, open-other m.active_num m.now m.clock q p k ds about) (omega arith))
          (last-here p ∙ last-other m.active_num m.now m.clock q p k ds about (H p)) (i.rows p h)

  pub handle-notice-inv : (x : LeaseNotice) → notice_refusal m.population m.me x ≡ Ok tt → Handles x
  unfolding handle_notice
  handle-notice-inv (N.NewGrants to bar) a = new-grants-inv to bar
  handle-notice-inv (N.DoRevoke to) a = do-revoke-inv to
  handle-notice-inv N.ClearHeld a = clear-held-inv
  handle-notice-inv (N.RecvLeaseMsg q msg) a = peer-inv q (PN.RecvLeaseMsg msg) a
  handle-notice-inv (N.GrantTimeout q) a = peer-inv q PN.GrantTimeout a
  handle-notice-inv (N.LeaseTimeout q) a = peer-inv q PN.LeaseTimeout a

  -- ---- the number rises

  raised-inv : (num : LeaseNum) → m.active_num.0 < num.0 → Inv (raised_to m num) (longer j (log-line num A.HigherNumber m.now m.clock ∷ []))
  unfolding raised_to
  raised-inv num l = record {
    sized = passed_length m P.HigherNumber ∙ i.sized;
    same-now = i.same-now;
    same-clock = i.same-clock;
    quiet_ok = i.quiet_ok;
    top = top-append 0 j.log ys;
    within = within-append m.population j.log ys i.within (tt, tt);
    rows = λ p h. moved t m.now {r = row_at (pass_on m P.HigherNumber).peers p} refl (open-append p j.log ys) (last-append p 0 no_line j.log ys ∙ gone p)
        (passed-at m P.HigherNumber p (λ r. Tied t m.now r 0 out) (λ y. higher-number-row t m.now (R p))
        (λ n. subst (λ r. Tied t m.now r 0 out) (sym (no-peer-empty m v p h n)) (refl, tt)) (no-past p h));
  }
    where
      ys : List LogLine
      ys = log-line num A.HigherNumber m.now m.clock ∷ []

      gone : (p : ℕ) → held_by p (top_of 0 j.log) (log-line num A.HigherNumber m.now m.clock) (H p) ≡ out
      gone p = rw (i.top, le-ltb num.0 m.active_num.0 (omega arith))

  -- ---- an outdated number

  -- one RevokeReply under an old number: skipped
  old-reply : (num : LeaseNum) (q : ℕ) → num.0 < m.active_num.0 → q < m.population
      → Inv m (longer j (log-line num (A.SendLeaseMsg q (M.RevokeReply false)) m.now m.clock ∷ []))
  old-reply num q l k = record {
    sized = i.sized;
    same-now = i.same-now;
    same-clock = i.same-clock;
    quiet_ok = i.quiet_ok;
    top = top-append 0 j.log ys ∙ i.top;
    within = within-append m.population j.log ys i.within (k, tt);
    rows = λ p h. moved t m.now {r = R p} refl (open-append p j.log ys ∙ none p (eqb q p)) (last-append p 0 no_line j.log ys ∙ skipped p) (i.rows p h);
  }
    where
      ys : List LogLine
      ys = log-line num (A.SendLeaseMsg q (M.RevokeReply false)) m.now m.clock ∷ []

      none : (p : ℕ) (b : Bool) → cond ((b && false) || false) 0 (O p) + (one ((b && false) && true) + 0) ≡ O p
      none p true = omega arith
      none p false = omega arith

      skipped : (p : ℕ) → held_by p (top_of 0 j.log) (log-line num (A.SendLeaseMsg q (M.RevokeReply false)) m.now m.clock) (H p) ≡ H p
      skipped p = rw (i.top, lt-ltb num.0 m.active_num.0 l)

  outdated-inv : (num : LeaseNum) (x : LeaseNotice) → num.0 < m.active_num.0 → notice_refusal m.population m.me x ≡ Ok tt
      → Inv m (longer j (stamped m.now m.clock (lines_under num (actions_of (outdated x)))))
  outdated-inv num (N.NewGrants to bar) l a = silent i
  outdated-inv num (N.DoRevoke to) l a = silent i
  outdated-inv num N.ClearHeld l a = silent i
  outdated-inv num (N.RecvLeaseMsg q (M.Guard bar)) l a = silent i
  outdated-inv num (N.RecvLeaseMsg q M.GuardReply) l a = silent i
  outdated-inv num (N.RecvLeaseMsg q M.Promise) l a = silent i
  outdated-inv num (N.RecvLeaseMsg q (M.PromiseReply held)) l a = silent i
  outdated-inv num (N.RecvLeaseMsg q M.Revoke) l a = old-reply num q l (peer-of m.population m.me q a).0
  outdated-inv num (N.RecvLeaseMsg q (M.RevokeReply held)) l a = silent i
  outdated-inv num (N.GrantTimeout q) l a = silent i
  outdated-inv num (N.LeaseTimeout q) l a = silent i

-- ---- a notice

raised-refusal : (m : Manager) (num : LeaseNum) (x : LeaseNotice) → notice_refusal (raised_to m num).population (raised_to m num).me x ≡ notice_refusal m.population m.me x
unfolding raised_to
raised-refusal m num x = refl

pub notice-inv : (m : Manager) (j : Journal) → Inv m j → record_valid m ≡ true → (num : LeaseNum) (x : LeaseNotice) → notice_refusal m.population m.me x ≡ Ok tt
    → Inv (accepted_of m num x).manager (longer j (stamped m.now m.clock (lines_of (accepted_of m num x).lines)))
unfolding accepted_of raised_to
notice-inv m j i v num x a = go (belowb num.0 m.active_num.0) (belowb m.active_num.0 num.0)
  where
    hl : LogLine
    hl = log-line num A.HigherNumber m.now m.clock

    -- the lines of a case, as a list
    as-list : (x : Manager) {l l' : List Line} → l' ≡ l → Inv x (longer j (stamped m.now m.clock l)) → Inv x (longer j (stamped m.now m.clock l'))
    as-list x e k = subst (λ z. Inv x (longer j (stamped m.now m.clock z))) (sym e) k

    up : m.active_num.0 < num.0
        → Inv (handle_notice (raised_to m num) x).manager (longer j (hl ∷ stamped m.now m.clock (lines_under num (actions_of (handle_notice (raised_to m num) x).actions))))
    up l = subst (λ z. Inv (handle_notice (raised_to m num) x).manager (record { now = j.now; clock = j.clock; quiet = j.quiet; log = z }))
        (append_assoc j.log (hl ∷ []) (stamped m.now m.clock (lines_under num (actions_of (handle_notice (raised_to m num) x).actions))))
        (handle-notice-inv (raised_to m num) (longer j (hl ∷ [])) (raised-inv m j i v num l) (raised-valid m num v) x (raised-refusal m num x ∙ a))

    go : Below num.0 m.active_num.0 → Below m.active_num.0 num.0
        → Inv (accepted_of m num x).manager (longer j (stamped m.now m.clock (lines_of (accepted_of m num x).lines)))
    go (below p l) k = rw p (as-list m (numbered-same num (outdated x)) (outdated-inv m j i v num x l a))
    go (above p l) (below q k) = rw (p, q) (as-list (handle_notice (raised_to m num) x).manager (numbered-higher num (handle_notice (raised_to m num) x).actions) (up k))
    go (above p l) (above q k) =
        rw (p, q) (as-list (handle_notice m x).manager (numbered-same num (handle_notice m x).actions)
        (subst (λ z. Inv (handle_notice m x).manager (longer j (stamped m.now m.clock (lines_under z (actions_of (handle_notice m x).actions))))) same-num (handle-notice-inv m j i v x a)))
      where
        same-num : m.active_num ≡ num
        same-num = let e : m.active_num.0 ≡ num.0 = omega arith in ap (λ (z : ℕ). record { 0 = z }) e

-- ---- the outer calls

quiet-moves : (t : ℕ) (now next : Reading) (q : Option Reading) (k : QuietStart) → now.0 ≤ next.0 → QuietTied t now q k → QuietTied t next (quiet_at next q) k
quiet-moves t now next None never l h = tt
quiet-moves t now next None (since r c) l h = omega arith
quiet-moves t now next (Some d) never l h = absurd h
quiet-moves t now next (Some d) (since r c) l h = go (lebb d.0 next.0)
  where
    go : AtMost d.0 next.0 → QuietTied t next (quiet_at next (Some d)) (since r c)
    go (at_most q k) = rw q (omega arith)
    go (beyond q k) = rw q h

pub advance-inv : (m : Manager) (j : Journal) → Inv m j → record_valid m ≡ true → (to : Reading) → m.now.0 ≤ to.0
    → Inv (advance_to m to).manager (record { now = to; clock = j.clock; quiet = j.quiet; log = j.log })
unfolding advance_to
advance-inv m j i v to l = record {
  sized = passed_length m (P.Advance to) ∙ i.sized;
  same-now = refl;
  same-clock = i.same-clock;
  quiet_ok = quiet-moves m.expire_timeout m.now to m.quiet_timer j.quiet l i.quiet_ok;
  top = i.top;
  within = i.within;
  rows = λ p h. passed-at m (P.Advance to) p (λ r. Tied m.expire_timeout to r (open_lines p j.log) (last_held p j.log))
      (λ y. later p h (row_at m.peers p) (i.rows p h))
      (λ n. subst (λ r. Tied m.expire_timeout to r (open_lines p j.log) (last_held p j.log)) (sym (no-peer-empty m v p h n))
      (later p h empty_row (subst (λ r. Tied m.expire_timeout m.now r (open_lines p j.log) (last_held p j.log)) (no-peer-empty m v p h n) (i.rows p h))))
      (no-past m j i v p h);
}
  where
    later : (p : ℕ) → p < capacity → (row : Peer) → Tied m.expire_timeout m.now row (open_lines p j.log) (last_held p j.log)
        → Tied m.expire_timeout to (advance_row to row).peer (open_lines p j.log) (last_held p j.log)
    later p h row k = advance-row m.expire_timeout m.now to l row (open_lines p j.log) (last_held p j.log) k

pub quiet-inv : (m : Manager) (j : Journal) → Inv m j → Inv (assume_unknown_grants m) (record { now = j.now; clock = j.clock; quiet = since j.now j.clock; log = j.log })
unfolding assume_unknown_grants
quiet-inv m j i =
    record { sized = i.sized; same-now = i.same-now; same-clock = i.same-clock; quiet_ok = rw (i.same-now, i.same-clock); top = i.top; within = i.within; rows = i.rows }

pub drift-inv : (m : Manager) (j : Journal) → Inv m j → (x : Option ℤ) → Inv (set_drift m x) (record { now = j.now; clock = clock_of x; quiet = j.quiet; log = j.log })
unfolding set_drift
drift-inv m j i x = record { sized = i.sized; same-now = i.same-now; same-clock = refl; quiet_ok = i.quiet_ok; top = i.top; within = i.within; rows = i.rows }

pub refresh-inv : (m : Manager) (j : Journal) → Inv m j → record_valid m ≡ true → (set : Option Bitmap) → Inv (attempt_refresh m set).manager j
unfolding attempt_refresh
refresh-inv m j i v set =
    passed-silent m j i v (refresh_pass m set)
    (λ p h. refresh-row m.expire_timeout m.now (drifted m.clock m.expire_timeout) (named set p) (row_at m.peers p) (open_lines p j.log) (last_held p j.log) (i.rows p h))
