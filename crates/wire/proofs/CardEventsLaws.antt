-- The two claims of specs/Claims. What is written is read: by cases on the event. What is read is written: by the tests of `is_card` in
-- their order, each of which says a number where it holds. Assumes nothing.
use Rattle.std.specs.Prelude.{Option, None, Some}
use Prim.Native.Nat.{ℕ, ◌/◌, ◌^◌, ◌≤◌, ◌<◌, min}
use mathlib.Core.Path.{◌≡◌, refl, sym, subst}
use mathlib.Core.Bool.{Bool, true, false, cond}
use native.Mathlib.Nat.{div-one, min-eq_left}
use native.Mathlib.Omega.{arith}
use lib.Dec.{eqb, leb}
use borrow.Author.Tests.{eqb-true, eqb-false, leb-true, ltb-true}
use Rattle.lease.specs.Bitmaps as bitmaps
use Rattle.lease.specs.Types.{Bitmap}
use Rattle.lease.specs.declared.Bar.{Bar}
use Rattle.lease.specs.declared.LeaseMsg.{LeaseMsg}
use Rattle.lease.specs.declared.LeaseMsg.TheVariants as M
use Rattle.lease.specs.declared.LeaseNotice.{LeaseNotice}
use Rattle.lease.specs.declared.LeaseNotice.TheVariants as N
use Rattle.lease.proofs.Tests.{both}
use Rattle.wire.specs.Flat.{flag}
use Rattle.wire.specs.Form.{is_flag}
use Rattle.wire.specs.Cards.{peer_set_of, accept_bar_of, msg_of, lease_notice_of}
use Rattle.wire.specs.declared.events.Event.TheVariants as E
use Rattle.wire.specs.Events.{card, are_zeros, is_set_card, is_msg_card, is_new_grants_card, is_do_revoke_card, is_notice_card, is_card, event_of, set_size, set_bits, bar_flag, bar_of, msg_kind, msg_first, notice_card, card_of, carried_set, carried_notice, carried_event}
use Rattle.wire.specs.Claims.{WrittenIsRead, ReadIsWritten}

-- ---- tests

neither : (a b : Bool) → cond a false b ≡ true → (a ≡ false) × (b ≡ true)
neither true b e = (sym e, cc)
neither false b e = (refl, e)

zeros : (a b : ℕ) → are_zeros a b ≡ true → (a ≡ 0) × (b ≡ 0)
zeros a b e = let t = both (eqb a 0) (eqb b 0) e in (eqb-true a 0 t.0, eqb-true b 0 t.1)

three-zeros : (a b c : ℕ) → cond (eqb a 0) (are_zeros b c) false ≡ true → (a ≡ 0) × (b ≡ 0) × (c ≡ 0)
three-zeros a b c e =
    let t = both (eqb a 0) (are_zeros b c) e in
    let z = zeros b c t.1 in
    (eqb-true a 0 t.0, z.0, z.1)

four-zeros : (a b c d : ℕ) → cond (are_zeros a b) (are_zeros c d) false ≡ true → (a ≡ 0) × (b ≡ 0) × (c ≡ 0) × (d ≡ 0)
four-zeros a b c d e =
    let t = both (are_zeros a b) (are_zeros c d) e in
    let z = zeros a b t.0 in
    let y = zeros c d t.1 in
    (z.0, z.1, y.0, y.1)

-- What holds of k, and of n where the test says that it is not k, holds of n.
by-test : (P : ℕ → Type 0) (k n : ℕ) → P k → (eqb n k ≡ false → P n) → P n
by-test P k n same other = go (eqb n k) refl where
  go : (b : Bool) → eqb n k ≡ b → P n
  go true e = subst P (sym (eqb-true n k e)) same
  go false e = other e

-- ---- what is written is read

size-of-set : (size first : ℕ) → is_set_card size first ≡ true → min size 255 ≡ size
unfolding is_set_card
size-of-set size first e =
    let low : size ≤ bitmaps.capacity = leb-true size bitmaps.capacity (both (leb size bitmaps.capacity) (eqb (first / 2 ^ size) 0) e).0 in
    min-eq_left (omega arith)

set-is-card : (set : Option Bitmap) → carried_set set ≡ true → is_set_card (set_size set) (set_bits set) ≡ true
unfolding carried_set is_set_card
set-is-card None e = refl
set-is-card (Some b) e = (neither (eqb b.size 0) (is_set_card b.size (bitmaps.number b)) e).1

set-is-read : (code num peer second : ℕ) (set : Option Bitmap) → carried_set set ≡ true → peer_set_of (card code num peer (set_size set) (set_bits set) second) ≡ set
unfolding carried_set peer_set_of
set-is-read code num peer second None e = refl
set-is-read code num peer second (Some b) e =
    let t = neither (eqb b.size 0) (is_set_card b.size (bitmaps.number b)) e in
    simp (t.0, size-of-set b.size (bitmaps.number b) t.1)

bar-is-card : (bar : Option Bar) → cond (eqb (bar_flag bar) 0) (eqb (bar_of bar) 0) (eqb (bar_flag bar) 1) ≡ true
bar-is-card None = refl
bar-is-card (Some bar) = refl

bar-is-read : (code num size first : ℕ) (bar : Option Bar) → accept_bar_of (card code num (bar_flag bar) size first (bar_of bar)) ≡ bar
unfolding accept_bar_of
bar-is-read code num size first None = refl
bar-is-read code num size first (Some bar) = refl

msg-is-card : (msg : LeaseMsg) → is_msg_card (msg_kind msg) (msg_first msg) ≡ true
unfolding is_msg_card
msg-is-card (M.Guard None) = refl
msg-is-card (M.Guard (Some bar)) = refl
msg-is-card M.GuardReply = refl
msg-is-card M.Promise = refl
msg-is-card (M.PromiseReply true) = refl
msg-is-card (M.PromiseReply false) = refl
msg-is-card M.Revoke = refl
msg-is-card (M.RevokeReply true) = refl
msg-is-card (M.RevokeReply false) = refl

msg-is-read : (num peer : ℕ) (msg : LeaseMsg) → msg_of (card 6 num peer (msg_kind msg) (msg_first msg) 0) ≡ msg
unfolding msg_of
msg-is-read num peer (M.Guard None) = refl
msg-is-read num peer (M.Guard (Some bar)) = refl
msg-is-read num peer M.GuardReply = refl
msg-is-read num peer M.Promise = refl
msg-is-read num peer (M.PromiseReply true) = refl
msg-is-read num peer (M.PromiseReply false) = refl
msg-is-read num peer M.Revoke = refl
msg-is-read num peer (M.RevokeReply true) = refl
msg-is-read num peer (M.RevokeReply false) = refl

notice-is-card : (num : ℕ) (notice : LeaseNotice) → carried_notice notice ≡ true → is_card (notice_card num notice) ≡ true
unfolding is_card is_new_grants_card is_do_revoke_card is_notice_card notice_card carried_notice
notice-is-card num (N.NewGrants set bar) e = simp (set-is-card set e, bar-is-card bar)
notice-is-card num (N.DoRevoke set) e = simp (set-is-card set e)
notice-is-card num N.ClearHeld e = refl
notice-is-card num (N.RecvLeaseMsg id msg) e = msg-is-card msg
notice-is-card num (N.GrantTimeout id) e = refl
notice-is-card num (N.LeaseTimeout id) e = refl

notice-is-read : (num : ℕ) (notice : LeaseNotice) → carried_notice notice ≡ true → event_of (notice_card num notice) ≡ E.Notice (record { 0 = num }) notice
unfolding event_of lease_notice_of notice_card carried_notice
notice-is-read num (N.NewGrants set bar) e =
    simp (set-is-read 3 num (bar_flag bar) (bar_of bar) set e, bar-is-read 3 num (set_size set) (set_bits set) bar)
notice-is-read num (N.DoRevoke set) e = simp (set-is-read 4 num 0 0 set e)
notice-is-read num N.ClearHeld e = refl
notice-is-read num (N.RecvLeaseMsg id msg) e = simp (msg-is-read num id msg)
notice-is-read num (N.GrantTimeout id) e = refl
notice-is-read num (N.LeaseTimeout id) e = refl

pub written-is-read : WrittenIsRead
unfolding is_card event_of card_of carried_event
written-is-read (E.SetUp u) e = (refl, refl)
written-is-read (E.Advance to) e = (refl, refl)
written-is-read (E.Notice num notice) e = (notice-is-card num.0 notice e, notice-is-read num.0 notice e)

-- ---- what is read is written

flag-is-written : (n : ℕ) → is_flag n ≡ true → flag (eqb n 1) ≡ n
flag-is-written n e =
    by-test (λ (x : ℕ). flag (eqb x 1) ≡ x) 0 n refl
    (λ not0. by-test (λ (x : ℕ). flag (eqb x 1) ≡ x) 1 n refl
    (λ not1. absurd (few (ltb-true n 2 e) (eqb-false n 0 not0) (eqb-false n 1 not1))))
  where
    few : n < 2 → (n ≡ 0 → ⊥) → (n ≡ 1 → ⊥) → ⊥
    few low not0 not1 = omega arith

-- What is claimed of a kind: of the message that it says with that first, the kind and first are those.
abbrev MsgWritten : ℕ → ℕ → ℕ → ℕ → Type 0
MsgWritten num peer first kind =
    is_msg_card kind first ≡ true →
    (msg_kind (msg_of (card 6 num peer kind first 0)) ≡ kind) × (msg_first (msg_of (card 6 num peer kind first 0)) ≡ first)

msg-is-written : (num peer kind first : ℕ) → MsgWritten num peer first kind
unfolding is_msg_card msg_of
msg-is-written num peer kind first =
    let say : ℕ → Type 0 = MsgWritten num peer first in
    by-test say 1 kind (λ e. (refl, sym (eqb-true first 0 e)))
    (λ n1. by-test say 2 kind (λ e. (refl, refl))
    (λ n2. by-test say 3 kind (λ e. (refl, sym (eqb-true first 0 e)))
    (λ n3. by-test say 4 kind (λ e. (refl, sym (eqb-true first 0 e)))
    (λ n4. by-test say 5 kind (λ e. (refl, flag-is-written first e))
    (λ n5. by-test say 6 kind (λ e. (refl, sym (eqb-true first 0 e)))
    (λ n6. by-test say 7 kind (λ e. (refl, flag-is-written first e))
    (λ n7 e. let no : false ≡ true = simp (n1, n2, n3, n4, n5, n6, n7) at e in (cc, cc))))))))

-- What is claimed of a size, that of a set with that first.
abbrev SetWritten : ℕ → ℕ → ℕ → ℕ → ℕ → ℕ → Type 0
SetWritten code num peer first second size =
    let set = peer_set_of (card code num peer size first second) in
    is_set_card size first ≡ true → (set_size set ≡ size) × (set_bits set ≡ first) × (carried_set set ≡ true)

set-is-written : (code num peer size first second : ℕ) → SetWritten code num peer first second size
unfolding is_set_card carried_set peer_set_of
set-is-written code num peer size first second =
    by-test (SetWritten code num peer first second) 0 size
    (λ e. (refl, sym (eqb-true first 0 (rw div-one at e)), refl))
    (λ n0 e. let low = size-of-set size first e in simp (n0, low, e) (refl, refl, refl))

-- What is claimed of peer, where it says whether second is a bar.
abbrev BarWritten : ℕ → ℕ → ℕ → ℕ → ℕ → ℕ → Type 0
BarWritten code num size first second peer =
    let bar = accept_bar_of (card code num peer size first second) in
    cond (eqb peer 0) (eqb second 0) (eqb peer 1) ≡ true → (bar_flag bar ≡ peer) × (bar_of bar ≡ second)

bar-is-written : (code num peer size first second : ℕ) → BarWritten code num size first second peer
unfolding accept_bar_of
bar-is-written code num peer size first second =
    by-test (BarWritten code num size first second) 0 peer
    (λ e. (refl, sym (eqb-true second 0 e)))
    (λ n0. by-test (BarWritten code num size first second) 1 peer (λ e. (refl, refl))
    (λ n1 e. let no : false ≡ true = simp (n0, n1) at e in (cc, cc)))

-- What is claimed of a code: the card of what it says with those fields is those numbers, and a card can carry it.
abbrev CardWritten : ℕ → ℕ → ℕ → ℕ → ℕ → ℕ → Type 0
CardWritten num peer size first second code =
    let c = card code num peer size first second in
    is_card c ≡ true → (card_of (event_of c) ≡ c) × (carried_event (event_of c) ≡ true)

module _ (num peer size first second : ℕ) where
  advance-is-written : CardWritten num peer size first second 2
  unfolding is_card event_of card_of carried_event
  advance-is-written e =
      let z = four-zeros peer size first second e in
      (simp (z.0, z.1, z.2, z.3), refl)

  new-grants-is-written : CardWritten num peer size first second 3
  unfolding is_card is_new_grants_card event_of lease_notice_of card_of notice_card carried_event carried_notice
  new-grants-is-written e =
      let t = both (is_set_card size first) (cond (eqb peer 0) (eqb second 0) (eqb peer 1)) e in
      let set = set-is-written 3 num peer size first second t.0 in
      let bar = bar-is-written 3 num peer size first second t.1 in
      (simp (set.0, set.1, bar.0, bar.1), set.2)

  do-revoke-is-written : CardWritten num peer size first second 4
  unfolding is_card is_do_revoke_card event_of lease_notice_of card_of notice_card carried_event carried_notice
  do-revoke-is-written e =
      let t = both (is_set_card size first) (are_zeros peer second) e in
      let set = set-is-written 4 num peer size first second t.0 in
      let z = zeros peer second t.1 in
      (simp (set.0, set.1) (simp (z.0, z.1)), set.2)

  clear-held-is-written : CardWritten num peer size first second 5
  unfolding is_card is_notice_card event_of lease_notice_of card_of notice_card carried_event carried_notice
  clear-held-is-written e =
      let z = four-zeros peer size first second e in
      (simp (z.0, z.1, z.2, z.3), refl)

  recv-is-written : CardWritten num peer size first second 6
  unfolding is_card is_notice_card event_of lease_notice_of card_of notice_card carried_event carried_notice
  recv-is-written e =
      let t = both (eqb second 0) (is_msg_card size first) e in
      let msg = msg-is-written num peer size first t.1 in
      (simp (eqb-true second 0 t.0, msg.0, msg.1), refl)

  grant-timeout-is-written : CardWritten num peer size first second 7
  unfolding is_card is_notice_card event_of lease_notice_of card_of notice_card carried_event carried_notice
  grant-timeout-is-written e =
      let z = three-zeros size first second e in
      (simp (z.0, z.1, z.2), refl)

  lease-timeout-is-written : CardWritten num peer size first second 8
  unfolding is_card is_notice_card event_of lease_notice_of card_of notice_card carried_event carried_notice
  lease-timeout-is-written e =
      let z = three-zeros size first second e in
      (simp (z.0, z.1, z.2), refl)

  card-is-written : (code : ℕ) → CardWritten num peer size first second code
  unfolding is_card is_notice_card event_of card_of carried_event
  card-is-written code =
      let say : ℕ → Type 0 = CardWritten num peer size first second in
      by-test say 1 code (λ e. (refl, refl))
      (λ n1. by-test say 2 code advance-is-written
      (λ n2. by-test say 3 code new-grants-is-written
      (λ n3. by-test say 4 code do-revoke-is-written
      (λ n4. by-test say 5 code clear-held-is-written
      (λ n5. by-test say 6 code recv-is-written
      (λ n6. by-test say 7 code grant-timeout-is-written
      (λ n7. by-test say 8 code lease-timeout-is-written
      (λ n8 e. let no : false ≡ true = simp (n1, n2, n3, n4, n5, n6, n7, n8) at e in (cc, cc)))))))))

pub read-is-written : ReadIsWritten
read-is-written c = card-is-written c.number c.peer c.size c.first c.second c.code
