-- The tests of the one look at a row are those of the form and of the record check, in another order. Assumes nothing.
use Prim.Native.Nat.{ℕ, zero, suc, ◌+◌, ◌≤◌}
use mathlib.Core.Path.{◌≡◌, refl, sym, ap, ◌∙◌}
use mathlib.Core.Bool.{Bool, true, false, cond, not, ◌&&◌, ◌||◌, true≢false}
use mathlib.Core.List.{List, map}
use native.Mathlib.Omega.{arith}
use native.Mathlib.Numerals.{add-one}
use borrow.Author.Tests.{ne_eqb, le-ltb}
use lib.Dec.{eqb, ltb}
use lib.ListN.{get_or, length, take}
use Rattle.std.specs.List.{list_all, enumerate_from}
use Rattle.std.proofs.lemmas.List.{take_all, get_or-map}
use Rattle.std.proofs.lemmas.List.Folds.{list_all_more}
use Rattle.std.proofs.lemmas.List.FromFn.{get_or-enumerate_from, length-enumerate_from}
use Rattle.lease.specs.Bitmaps.{capacity}
use Rattle.lease.specs.Clocks.{is_settable}
use Rattle.lease.specs.Rows.{row_at, empty_row, present, granted}
use Rattle.lease.specs.RecordCheck.{sent_guard_valid, entry_valid, grant_valid, row_valid, row_empty, row_valid_at, rows_valid, limits_valid, quiet_valid, record_valid}
use Rattle.wire.specs.declared.flat.PeerC.{PeerC}
use Rattle.wire.specs.declared.flat.ManagerC.{ManagerC}
use Rattle.wire.specs.Form.{is_entry, is_flag, is_grant, is_row, is_clock_pair, is_quiet_pair, is_record}
use Rattle.wire.specs.FromFlat.{peer_of, clock_by_flag, quiet_timer_by_flag, manager_of}
use Rattle.flat_record.specs.Sound.{reading, blank_row, sent_blank, held_blank, sent_sound, held_sound, sound_at}
use Rattle.std.specs.Prelude.{Option, None, Some}
use Rattle.lease.specs.Types.{Timer}
use Rattle.lease.specs.declared.Peer.{Peer}

-- ---- tests in another order

pub swapped : (a b c d : Bool) → ((a && b) && (c && d)) ≡ ((a && c) && (b && d))
swapped false b c d = refl
swapped true b true d = refl
swapped true true false d = refl
swapped true false false d = refl

-- four pairs of tests
fours : (a x b y c z d w : Bool) → (((a && x) && (b && y)) && ((c && z) && (d && w))) ≡ (((a && b) && (c && d)) && ((x && y) && (z && w)))
fours a x b y c z d w =
    ap (λ t. t && ((c && z) && (d && w))) (swapped a x b y)
    ∙ ap (λ t. ((a && b) && (x && y)) && t) (swapped c z d w)
    ∙ swapped (a && b) (x && y) (c && d) (z && w)

-- ---- one row

no_test : (x y : Bool) (z : Bool) → ((x && y) && false) ≡ ((x && false) && z)
no_test true true z = refl
no_test true false z = refl
no_test false y z = refl

pub and_true : (x : Bool) → x ≡ (x && true)
and_true true = refl
and_true false = refl

-- a mark of 0 is a flag that does not say so
unmarked : (n : ℕ) (x y : Bool) → ((x && y) && eqb n 0) ≡ ((x && is_flag n) && cond (eqb n 1) false y)
unmarked zero true true = refl
unmarked zero true false = refl
unmarked zero false y = refl
unmarked (suc zero) true true = refl
unmarked (suc zero) true false = refl
unmarked (suc zero) false y = refl
unmarked (suc (suc n)) x y = let e : is_flag (suc (suc n)) ≡ false = le-ltb (suc (suc n)) 2 (omega arith) in let k : eqb (suc (suc n)) 0 ≡ false = ne_eqb (suc (suc n)) 0 (λ z. omega arith) in rw (e, k) (no_test x y _)

pub blank : (p : PeerC) → ((sent_blank p && held_blank p) && eqb p.refresh_mark 0) ≡ (is_row p && row_empty (peer_of p))
unfolding is_row row_empty peer_of
blank p =
    let row = peer_of p in
    let a = is_entry p.guard_sent p.guard_sent_at in
    let b = is_grant p.promise_sent p.promise_sent_at p.revoking in
    let c = is_entry p.guard_held p.guard_held_at in
    let d = is_entry p.promise_held p.promise_held_at in
    let x = not (present row.guard_sent) in
    let y = not (granted row.promise_sent) in
    let z = not (present row.guard_held) in
    let w = not (present row.promise_held) in
    ap (λ t. t && eqb p.refresh_mark 0) (fours a x b y c z d w) ∙ unmarked p.refresh_mark ((a && b) && (c && d)) ((x && y) && (z && w))

both-sides : (e a f b m : Bool) → ((e && a) && (m && (f && b))) ≡ (((e && f) && m) && (a && b))
both-sides false a f b m = refl
both-sides true false true b true = refl
both-sides true false true b false = refl
both-sides true false false b m = refl
both-sides true true true b m = refl
both-sides true true false b true = refl
both-sides true true false b false = refl

pub sound : (now : ℕ) (p : PeerC) → (sent_sound now p && (is_flag p.refresh_mark && held_sound now p)) ≡ (is_row p && row_valid (reading now) (peer_of p))
unfolding is_row row_valid peer_of
sound now p =
    let row = peer_of p in
    let e = is_entry p.guard_sent p.guard_sent_at && is_grant p.promise_sent p.promise_sent_at p.revoking in
    let f = is_entry p.guard_held p.guard_held_at && is_entry p.promise_held p.promise_held_at in
    let v = sent_guard_valid row.guard_sent && grant_valid (reading now) row.promise_sent in
    let w = entry_valid (reading now) row.guard_held && entry_valid (reading now) row.promise_held in
    let t = not (present row.guard_sent) || not (granted row.promise_sent) in
    let u = not (present row.guard_held) || not (present row.promise_held) in
    let m = is_flag p.refresh_mark in
    both-sides e (v && t) f (w && u) m ∙ ap (λ x. ((e && f) && m) && x) (swapped v t w u)

-- ---- a row at its id

-- a row with no entry and no mark is valid
empty-valid : (now : ℕ) (row : Peer) → row_empty row ≡ true → row_valid (reading now) row ≡ true
unfolding row_empty row_valid
empty-valid now row = go row.guard_sent row.promise_sent row.guard_held row.promise_held row.refresh_mark
  where
    go : (a : Option Timer) (b : Option (Timer × Bool)) (c d : Option Timer) (mark : Bool)
        → row_empty (record { guard_sent = a; promise_sent = b; guard_held = c; promise_held = d; refresh_mark = mark }) ≡ true
        → row_valid (reading now) (record { guard_sent = a; promise_sent = b; guard_held = c; promise_held = d; refresh_mark = mark }) ≡ true
    go None None None None mark h = refl
    go (Some t) b c d true h = absurd (true≢false (sym h))
    go (Some t) b c d false h = absurd (true≢false (sym h))
    go None (Some t) c d true h = absurd (true≢false (sym h))
    go None (Some t) c d false h = absurd (true≢false (sym h))
    go None None (Some t) d true h = absurd (true≢false (sym h))
    go None None (Some t) d false h = absurd (true≢false (sym h))
    go None None None (Some t) true h = absurd (true≢false (sym h))
    go None None None (Some t) false h = absurd (true≢false (sym h))

both-so : (a b c : Bool) → (b ≡ true → c ≡ true) → (a && b) ≡ true → (a && c) ≡ true
both-so true b c h k = h k
both-so false b c h k = k

-- a blank row is of the form, and valid at each id; another is a peer's
at_id : (form empty valid below own : Bool) → ((form && empty) ≡ true → (form && valid) ≡ true)
    → ((form && empty) || ((below && not own) && (form && valid))) ≡ (form && cond below (cond own empty valid) empty)
at_id false empty valid true true h = refl
at_id false empty valid true false h = refl
at_id false empty valid false own h = refl
at_id true true valid true true h = refl
at_id true true valid true false h = sym (h refl)
at_id true true valid false own h = refl
at_id true false valid true true h = refl
at_id true false valid true false h = refl
at_id true false valid false own h = refl

pub sound-at : (f : ManagerC) (i : ℕ) (p : PeerC)
    → ((is_row p && row_empty (peer_of p)) || ((ltb i f.population && not (eqb i f.me)) && (is_row p && row_valid (reading f.now) (peer_of p)))) ≡ sound_at f i p
unfolding row_valid_at
sound-at f i p = at_id (is_row p) (row_empty (peer_of p)) (row_valid (reading f.now) (peer_of p)) (ltb i f.population) (eqb i f.me) (both-so (is_row p) _ _ (empty-valid f.now (peer_of p)))

-- ---- the rows

-- of the first k
rows-below : (f : ManagerC) (rows : List PeerC) (k : ℕ) → k ≤ length rows
    → list_all (λ p. sound_at f p.0 p.1) (take k (enumerate_from 0 rows)) ≡ (list_all is_row (take k rows) && rows_valid f.me f.population (reading f.now) (map peer_of rows) k)
unfolding rows_valid
rows-below f rows zero h = refl
rows-below f rows (suc k) h =
    let more = list_all_more (λ (p : ℕ × PeerC). sound_at f p.0 p.1) (enumerate_from 0 rows) k (0, blank_row) (omega (arith, length-enumerate_from 0 rows)) in
    let forms = list_all_more is_row rows k blank_row h in
    let same : 0 + k ≡ k = omega arith in
    let at : peer_of (get_or rows k blank_row) ≡ row_at (map peer_of rows) k = sym (get_or-map peer_of rows k blank_row empty_row h) in
    simp (← add-one, more, forms, rows-below f rows k (omega arith), get_or-enumerate_from 0 rows k (0, blank_row) h, same, at) (swapped (list_all is_row (take k rows)) (rows_valid f.me f.population (reading f.now) (map peer_of rows) k) (is_row (get_or rows k blank_row)) (row_valid_at f.me f.population (reading f.now) k (row_at (map peer_of rows) k)))

-- of all
pub all-rows : (f : ManagerC) → length f.peers ≡ capacity
    → list_all (λ p. sound_at f p.0 p.1) (enumerate_from 0 f.peers) ≡ (list_all is_row f.peers && rows_valid f.me f.population (reading f.now) (map peer_of f.peers) capacity)
all-rows f full =
    let at = rows-below f f.peers capacity (omega arith) in
    rw (take_all capacity (enumerate_from 0 f.peers) (omega (arith, length-enumerate_from 0 f.peers)), take_all capacity f.peers (omega arith)) at at

-- ---- the record

in-order : (a s l f v : Bool) → (((a && s) && l) && (f && v)) ≡ ((a && f) && ((l && v) && s))
in-order false s l f v = refl
in-order true true true true true = refl
in-order true true true true false = refl
in-order true true true false v = refl
in-order true true false true v = refl
in-order true true false false v = refl
in-order true false true true true = refl
in-order true false true true false = refl
in-order true false true false v = refl
in-order true false false true v = refl
in-order true false false false v = refl

-- form and validity of the clock, c and k, and of quiet time, q and w; the limits, l; and form and validity of the rows, f and v
record-tests : (c k q w l f v : Bool) → ((((c && k) && (q && w)) && l) && (f && v)) ≡ (((c && q) && f) && ((l && v) && (k && w)))
record-tests c k q w l f v = ap (λ t. (t && l) && (f && v)) (swapped c k q w) ∙ in-order (c && q) (k && w) l f v

pub record-at : (f : ManagerC) (a b c d : Bool)
    → a ≡ (is_clock_pair f.drifting f.quotient && is_settable (clock_by_flag f.drifting f.quotient))
    → b ≡ (is_quiet_pair f.quiet f.quiet_until && quiet_valid (reading f.now) (quiet_timer_by_flag f.quiet f.quiet_until))
    → c ≡ limits_valid (manager_of f)
    → d ≡ (list_all is_row f.peers && rows_valid f.me f.population (reading f.now) (map peer_of f.peers) capacity)
    → (((a && b) && c) && d) ≡ (is_record f && record_valid (manager_of f))
unfolding is_record record_valid manager_of
record-at f a b c d p q r s =
    ap (λ t. ((t && b) && c) && d) p
    ∙ ap (λ t. (((is_clock_pair f.drifting f.quotient && is_settable (clock_by_flag f.drifting f.quotient)) && t) && c) && d) q
    ∙ ap (λ t. (((is_clock_pair f.drifting f.quotient && is_settable (clock_by_flag f.drifting f.quotient)) && (is_quiet_pair f.quiet f.quiet_until && quiet_valid (reading f.now) (quiet_timer_by_flag f.quiet f.quiet_until))) && c) && t) s
    ∙ ap (λ t. (((is_clock_pair f.drifting f.quotient && is_settable (clock_by_flag f.drifting f.quotient)) && (is_quiet_pair f.quiet f.quiet_until && quiet_valid (reading f.now) (quiet_timer_by_flag f.quiet f.quiet_until))) && t)
    && (list_all is_row f.peers && rows_valid f.me f.population (reading f.now) (map peer_of f.peers) capacity)) r
    ∙ record-tests (is_clock_pair f.drifting f.quotient) (is_settable (clock_by_flag f.drifting f.quotient)) (is_quiet_pair f.quiet f.quiet_until) (quiet_valid (reading f.now) (quiet_timer_by_flag f.quiet f.quiet_until)) (limits_valid (manager_of f)) (list_all is_row f.peers) (rows_valid f.me f.population (reading f.now) (map peer_of f.peers) capacity)
