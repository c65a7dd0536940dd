-- The claims of specs/Claims.antt: entry by entry, then row by row. Assumes nothing.
use Rattle.std.specs.Prelude.{Option, None, Some}
use Prim.Native.Nat.{ℕ, zero, suc, ◌<◌, ◌≤◌}
use mathlib.Core.Path.{◌≡◌, refl, sym, subst}
use mathlib.Core.Bool.{Bool, true, false, cond, ◌&&◌, true≢false}
use mathlib.Core.List.{List, [], ◌∷◌, map}
use native.Mathlib.Omega.{arith}
use borrow.Author.Tests.{ltb-true, eqb-true}
use lib.Dec.{T, eqb, ltb, lit≤, lit<}
use lib.Pow.{pow_pos}
use lib.Ieee.{Float, binary64, eq, fits}
use Rattle.lease.specs.Types.{Reading, Clock, True, Drifting, Timer, Unarmed, Armed, Exploded}
use Rattle.std.specs.List.{list_all}
use Rattle.drift.proofs.Rounded.{L}
use Rattle.drift.proofs.Same.{eq-value, eq_refl, value-unique}
use Rattle.drift.proofs.Quotients.{value, value_pos, has_value, quotient_fits}
use Rattle.lease.specs.declared.Peer.{Peer}
use Rattle.wire.specs.declared.flat.PeerC.{PeerC}
use Rattle.wire.specs.Flat.{flag, entry_tag, entry_at, grant_tag, grant_at, grant_revoking, flat_row, true_quotient, clock_drifting, clock_quotient, quiet_flag, quiet_until_of, flat_of}
use Rattle.wire.specs.FromFlat.{entry_by_tag, grant_by_tag, peer_of, clock_by_flag, quiet_timer_by_flag, manager_of}
use Rattle.wire.specs.Form.{is_entry, is_flag, is_grant, is_row, is_clock_pair, is_quiet_pair, is_record}
use Rattle.wire.specs.Claims.{ThereAndBack, FlatIsRecord, BackAndThere}

-- ---- there and back

entry-back : (e : Option Timer) → entry_by_tag (entry_tag e) (entry_at e) ≡ e
entry-back None = refl
entry-back (Some Unarmed) = refl
entry-back (Some (Armed d)) = refl
entry-back (Some Exploded) = refl

grant-back : (g : Option (Timer × Bool)) → grant_by_tag (grant_tag g) (grant_at g) (grant_revoking g) ≡ g
grant-back None = refl
grant-back (Some (Unarmed, true)) = refl
grant-back (Some (Unarmed, false)) = refl
grant-back (Some (Armed d, true)) = refl
grant-back (Some (Armed d, false)) = refl
grant-back (Some (Exploded, true)) = refl
grant-back (Some (Exploded, false)) = refl

flag-back : (b : Bool) → eqb (flag b) 1 ≡ b
flag-back true = refl
flag-back false = refl

pub row_back : (row : Peer) → peer_of (flat_row row) ≡ row
unfolding peer_of flat_row
row_back row = λ i.
    record {
      guard_sent = entry-back row.guard_sent i;
      promise_sent = grant-back row.promise_sent i;
      guard_held = entry-back row.guard_held i;
      promise_held = entry-back row.promise_held i;
      refresh_mark = flag-back row.refresh_mark i;
    }

rows_back : (rows : List Peer) → map peer_of (map flat_row rows) ≡ rows
rows_back [] = refl
rows_back (row ∷ rows) = λ i. row_back row i ∷ rows_back rows i

clock-back : (c : Clock) → clock_by_flag (clock_drifting c) (clock_quotient c) ≡ c
clock-back True = refl
clock-back (Drifting q) = refl

quiet-back : (t : Option Reading) → quiet_timer_by_flag (quiet_flag t) (quiet_until_of t) ≡ t
quiet-back None = refl
quiet-back (Some d) = refl

pub there_and_back : ThereAndBack
unfolding manager_of flat_of
there_and_back m = λ i.
    record {
      me = m.me;
      population = m.population;
      expire_timeout = m.expire_timeout;
      now = m.now;
      active_num = m.active_num;
      clock = clock-back m.clock i;
      quiet_timer = quiet-back m.quiet_timer i;
      peers = rows_back m.peers i;
    }

-- ---- what comes of it is a record

entry-is : (e : Option Timer) → is_entry (entry_tag e) (entry_at e) ≡ true
entry-is None = refl
entry-is (Some Unarmed) = refl
entry-is (Some (Armed d)) = refl
entry-is (Some Exploded) = refl

grant-is : (g : Option (Timer × Bool)) → is_grant (grant_tag g) (grant_at g) (grant_revoking g) ≡ true
grant-is None = refl
grant-is (Some (Unarmed, true)) = refl
grant-is (Some (Unarmed, false)) = refl
grant-is (Some (Armed d, true)) = refl
grant-is (Some (Armed d, false)) = refl
grant-is (Some (Exploded, true)) = refl
grant-is (Some (Exploded, false)) = refl

flag_is : (b : Bool) → is_flag (flag b) ≡ true
flag_is true = refl
flag_is false = refl

pub row_is : (row : Peer) → is_row (flat_row row) ≡ true
unfolding is_row flat_row
row_is row = simp (entry-is row.guard_sent, grant-is row.promise_sent, entry-is row.guard_held, entry-is row.promise_held, flag_is row.refresh_mark)

rows_are : (rows : List Peer) → list_all is_row (map flat_row rows) ≡ true
rows_are [] = refl
rows_are (row ∷ rows) = simp (row_is row, rows_are rows)

one-is : eq true_quotient true_quotient ≡ true
one-is = eq_refl true_quotient false (value 100) L (has_value 100 (lit< tt) (lit≤ tt))

clock-is : (c : Clock) → is_clock_pair (clock_drifting c) (clock_quotient c) ≡ true
clock-is True = one-is
clock-is (Drifting q) = refl

quiet_is : (t : Option Reading) → is_quiet_pair (quiet_flag t) (quiet_until_of t) ≡ true
quiet_is None = refl
quiet_is (Some d) = refl

pub flat-is-record : FlatIsRecord
unfolding is_record flat_of
flat-is-record m = simp (clock-is m.clock, quiet_is m.quiet_timer, rows_are m.peers)

-- ---- back and there

both_l : (a b : Bool) → (a && b) ≡ true → a ≡ true
both_l true b h = refl
both_l false b h = h

both_r : (a b : Bool) → (a && b) ≡ true → b ≡ true
both_r true b h = h
both_r false b h = absurd (true≢false (sym h))

-- what holds at 0 and at 1 holds at a flag
at-two : (P : ℕ → Type 0) (n : ℕ) → P 0 → P 1 → is_flag n ≡ true → P n
at-two P n a b h = few n (ltb-true n 2 h)
  where
    few : (n : ℕ) → n < 2 → P n
    few zero h = a
    few (suc zero) h = b
    few (suc (suc n)) h = absurd (omega arith)

-- an entry's tag is one of the four
tag-few : (tag at : ℕ) → is_entry tag at ≡ true → tag < 4
tag-few tag at = go (eqb tag 2) (ltb tag 4) refl refl
  where
    go : (x y : Bool) → eqb tag 2 ≡ x → ltb tag 4 ≡ y → cond x true (cond y (eqb at 0) false) ≡ true → tag < 4
    go true y e k h = let q = eqb-true tag 2 e in omega arith
    go false true e k h = ltb-true tag 4 k
    go false false e k h = absurd (true≢false (sym h))

-- so what holds at each of the four holds
at-four : (P : ℕ → Type 0) (tag : ℕ) → P 0 → P 1 → P 2 → P 3 → tag < 4 → P tag
at-four P zero a b c d h = a
at-four P (suc zero) a b c d h = b
at-four P (suc (suc zero)) a b c d h = c
at-four P (suc (suc (suc zero))) a b c d h = d
at-four P (suc (suc (suc (suc n)))) a b c d h = absurd (omega arith)

flag-there : (n : ℕ) → is_flag n ≡ true → flag (eqb n 1) ≡ n
flag-there n = at-two (λ k. flag (eqb k 1) ≡ k) n refl refl

abbrev EntryThere : ℕ → ℕ → Type 0
EntryThere at tag = is_entry tag at ≡ true → (entry_tag (entry_by_tag tag at) ≡ tag) × (entry_at (entry_by_tag tag at) ≡ at)

entry-there : (tag at : ℕ) → EntryThere at tag
entry-there tag at h =
    at-four (EntryThere at) tag
    (λ k. (refl, sym (eqb-true at 0 k)))
    (λ k. (refl, sym (eqb-true at 0 k)))
    (λ k. (refl, refl))
    (λ k. (refl, sym (eqb-true at 0 k)))
    (tag-few tag at h) h

abbrev GrantThere : ℕ → ℕ → ℕ → Type 0
GrantThere at revoking tag =
    is_grant tag at revoking ≡ true
    → (grant_tag (grant_by_tag tag at revoking) ≡ tag) × (grant_at (grant_by_tag tag at revoking) ≡ at) × (grant_revoking (grant_by_tag tag at revoking) ≡ revoking)

grant-there : (tag at revoking : ℕ) → GrantThere at revoking tag
grant-there tag at revoking h =
    at-four (GrantThere at revoking) tag
    (λ k. (refl, sym (eqb-true at 0 (both_r (eqb revoking 0) (eqb at 0) k)), sym (eqb-true revoking 0 (both_l (eqb revoking 0) (eqb at 0) k))))
    (λ k. (refl, sym (eqb-true at 0 (both_r (is_flag revoking) (eqb at 0) k)), flag-there revoking (both_l (is_flag revoking) (eqb at 0) k)))
    (λ k. (refl, refl, flag-there revoking (both_l (is_flag revoking) true k)))
    (λ k. (refl, sym (eqb-true at 0 (both_r (is_flag revoking) (eqb at 0) k)), flag-there revoking (both_l (is_flag revoking) (eqb at 0) k)))
    (tag-few tag at (both_r (cond (eqb tag 0) (eqb revoking 0) (is_flag revoking)) (is_entry tag at) h)) h

pub row-there : (p : PeerC) → is_row p ≡ true → flat_row (peer_of p) ≡ p
unfolding is_row peer_of flat_row
row-there p h =
    let gs = is_entry p.guard_sent p.guard_sent_at in
    let ps = is_grant p.promise_sent p.promise_sent_at p.revoking in
    let gh = is_entry p.guard_held p.guard_held_at in
    let ph = is_entry p.promise_held p.promise_held_at in
    let k = both_l ((gs && ps) && (gh && ph)) (is_flag p.refresh_mark) h in
    let sent = both_l (gs && ps) (gh && ph) k in
    let held = both_r (gs && ps) (gh && ph) k in
    let a = entry-there p.guard_sent p.guard_sent_at (both_l gs ps sent) in
    let b = grant-there p.promise_sent p.promise_sent_at p.revoking (both_r gs ps sent) in
    let c = entry-there p.guard_held p.guard_held_at (both_l gh ph held) in
    let d = entry-there p.promise_held p.promise_held_at (both_r gh ph held) in
    let e = flag-there p.refresh_mark (both_r ((gs && ps) && (gh && ph)) (is_flag p.refresh_mark) h) in
    λ i.
    record {
      guard_sent = a.0 i;
      promise_sent = b.0 i;
      guard_held = c.0 i;
      promise_held = d.0 i;
      revoking = b.2 i;
      refresh_mark = e i;
      guard_sent_at = a.1 i;
      promise_sent_at = b.1 i;
      guard_held_at = c.1 i;
      promise_held_at = d.1 i;
    }

pub rows-there : (rows : List PeerC) → list_all is_row rows ≡ true → map flat_row (map peer_of rows) ≡ rows
rows-there [] h = refl
rows-there (p ∷ rows) h = λ i. row-there p (both_l (is_row p) (list_all is_row rows) h) i ∷ rows-there rows (both_r (is_row p) (list_all is_row rows) h) i

-- of the f64s only 1.0 equals 1.0
one_only : (q : Float) → T (fits binary64 q) → eq q true_quotient ≡ true → q ≡ true_quotient
one_only q f h =
    let P : 0 < 100 = lit< tt in
    let m : 100 ≤ 227 = lit≤ tt in
    let v = eq-value q true_quotient (value 100) L (pow_pos 1074) (value_pos 100 P m) (has_value 100 P m) (subst T (sym h) tt) in
    value-unique binary64 q true_quotient false (value 100) L f (quotient_fits 100 P m) (pow_pos 1074) v (has_value 100 P m)

abbrev ClockThere : Float → ℕ → Type 0
ClockThere q drifting = (clock_drifting (clock_by_flag drifting q) ≡ drifting) × (clock_quotient (clock_by_flag drifting q) ≡ q)

clock-there : (drifting : ℕ) (q : Float) → T (fits binary64 q) → is_clock_pair drifting q ≡ true → ClockThere q drifting
clock-there drifting q f = go (eqb drifting 0) refl
  where
    go : (x : Bool) → eqb drifting 0 ≡ x → cond x (eq q true_quotient) (is_flag drifting) ≡ true → ClockThere q drifting
    go true e h = subst (ClockThere q) (sym (eqb-true drifting 0 e)) (refl, sym (one_only q f h))
    go false e h = at-two (λ k. eqb k 0 ≡ false → ClockThere q k) drifting (λ n. absurd (true≢false n)) (λ n. (refl, refl)) h e

abbrev QuietThere : ℕ → ℕ → Type 0
QuietThere at quiet = (quiet_flag (quiet_timer_by_flag quiet at) ≡ quiet) × (quiet_until_of (quiet_timer_by_flag quiet at) ≡ at)

quiet-there : (quiet at : ℕ) → is_quiet_pair quiet at ≡ true → QuietThere at quiet
quiet-there quiet at = go (eqb quiet 0) refl
  where
    go : (x : Bool) → eqb quiet 0 ≡ x → cond x (eqb at 0) (is_flag quiet) ≡ true → QuietThere at quiet
    go true e h = subst (QuietThere at) (sym (eqb-true quiet 0 e)) (refl, sym (eqb-true at 0 h))
    go false e h = at-two (λ k. eqb k 0 ≡ false → QuietThere at k) quiet (λ n. absurd (true≢false n)) (λ n. (refl, refl)) h e

pub back-and-there : BackAndThere
unfolding is_record manager_of flat_of
back-and-there f fits h =
    let c = is_clock_pair f.drifting f.quotient in
    let q = is_quiet_pair f.quiet f.quiet_until in
    let k = both_l (c && q) (list_all is_row f.peers) h in
    let clock = clock-there f.drifting f.quotient fits (both_l c q k) in
    let quiet = quiet-there f.quiet f.quiet_until (both_r c q k) in
    let rows = rows-there f.peers (both_r (c && q) (list_all is_row f.peers) h) in
    λ i.
    record {
      me = f.me;
      population = f.population;
      expire_timeout = f.expire_timeout;
      now = f.now;
      active_num = f.active_num;
      quotient = clock.1 i;
      quiet_until = quiet.1 i;
      drifting = clock.0 i;
      quiet = quiet.0 i;
      peers = rows i;
    }
