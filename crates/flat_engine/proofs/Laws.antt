-- A flat record with other rows is the flat record of the manager with those rows. Assumes nothing.
use Rattle.std.specs.Prelude.{map, replicate, Float, ℤ, Option, ◌*◌}
use Rattle.std.specs.List.{list_all}
use mathlib.Core.Path.{◌≡◌, refl, sym, ap, subst, ◌∙◌}
use mathlib.Core.Bool.{true, ◌&&◌}
use mathlib.Core.List.{List, [], ◌∷◌}
use Prim.Native.Nat.{ℕ, zero, suc, ◌+◌, ◌<◌}
use borrow.Author.Tests.{lt-ltb}
use lib.ListN.{length, set}
use Rattle.std.proofs.lemmas.List.{get_or-map, map-set, length-map}
use Rattle.lease.specs.declared.Peer.{Peer}
use Rattle.lease.specs.declared.Manager.{Manager}
use Rattle.lease.specs.Tables.{below}
use Rattle.lease.specs.declared.LeaseNum.{LeaseNum}
use Rattle.lease.specs.declared.LeaseNotice.{LeaseNotice}
use Rattle.lease.specs.Pass.{Pass}
use Rattle.lease.specs.Pass as P
use Rattle.lease.specs.Passes.{higher_number_row, pass_over}
use Rattle.lease.specs.Notices.{with_peers, pass_on, raised_to, accepted_of}
use Rattle.lease.specs.Bitmaps.{capacity}
use Rattle.lease.specs.Rows.{empty_row, row_at}
use Rattle.lease.specs.SetUp.{fresh}
use Rattle.lease.specs.Types.{Reading}
use Rattle.lease.specs.Timers.{drifted}
use Rattle.lease.specs.Calls.{quiet_at, clock_of, assume_unknown_grants, advance_to, set_drift}
use Rattle.peer_rows.specs.Rules.{advance_pass}
use Rattle.refusals.specs.Fits.{ManagerFits}
use Rattle.peer_rows.specs.Clearing.{ClearedBelow}
use Rattle.peer_rows.proofs.ClearingClaims.{done, only_rules}
use Rattle.flat_record.specs.Sound.{blank_row}
use Rattle.flat_engine.specs.FlatRows.{flat_at, FlatFits}
use Rattle.lease.proofs.Tests.{snd-of}
use Rattle.wire.specs.declared.flat.PeerC.{PeerC}
use Rattle.wire.specs.declared.flat.ManagerC.{ManagerC}
use Rattle.wire.specs.Flat.{flat_row, clock_drifting, clock_quotient, quiet_flag, quiet_until_of, true_quotient, flat_of}
use Rattle.wire.specs.FromFlat.{peer_of, clock_by_flag, quiet_timer_by_flag, manager_of}
use Rattle.wire.specs.Form.{is_row, is_record, is_clock_pair, is_quiet_pair}
use Rattle.wire.proofs.FlatLaws.{rows-there, there_and_back, flat-is-record}

-- ---- rows

-- a rule taken to the ids below n is taken to their flat rows
pub flat-below : (n : ℕ) (g : ℕ → Peer → Peer) (rows : List PeerC) → list_all is_row rows ≡ true
    → below n (λ i p. flat_row (g i (peer_of p))) rows ≡ map flat_row (below n g (map peer_of rows))
unfolding below
flat-below zero g rows h = sym (rows-there rows h)
flat-below (suc n) g [] h = refl
flat-below (suc n) g (p ∷ rows) h = ap (λ (l : List PeerC). flat_row (g 0 (peer_of p)) ∷ l) (flat-below n (λ i. g (suc i)) rows (snd-of (is_row p) (list_all is_row rows) h))

-- the row that a flat row stands for, and its flat row
pub stands : (rows : List PeerC) (i : ℕ) → i < length rows → peer_of (flat_at rows i) ≡ row_at (map peer_of rows) i
stands rows i h = sym (get_or-map peer_of rows i blank_row empty_row h)

pub there_at : (rows : List PeerC) (i : ℕ) → i < length rows → list_all is_row rows ≡ true → flat_row (peer_of (flat_at rows i)) ≡ flat_at rows i
there_at rows i h form =
    ap flat_row (stands rows i h)
    ∙ sym (get_or-map flat_row (map peer_of rows) i empty_row blank_row (rw length-map h))
    ∙ ap (λ (l : List PeerC). flat_at l i) (rows-there rows form)

-- ---- the record

-- the rows of a manager's flat record are of the form
pub rows_form : (f : ManagerC) → flat_of (manager_of f) ≡ f → list_all is_row f.peers ≡ true
unfolding is_record
rows_form f e =
    snd-of (is_clock_pair f.drifting f.quotient && is_quiet_pair f.quiet f.quiet_until) (list_all is_row f.peers) (subst (λ (g : ManagerC). is_record g ≡ true) e (flat-is-record (manager_of f)))

-- the flat record with other fields
abbrev pub with_fields : ManagerC → ℕ → ℕ → Float → ℕ → ℕ → ℕ → List PeerC → ManagerC
with_fields f now num quotient until drifting quiet rows =
    record {
      me = f.me;
      population = f.population;
      expire_timeout = f.expire_timeout;
      now = now;
      active_num = num;
      quotient = quotient;
      quiet_until = until;
      drifting = drifting;
      quiet = quiet;
      peers = rows;
    }

-- with other rows
abbrev pub with_rows : ManagerC → List PeerC → ManagerC
with_rows f rows = with_fields f f.now f.active_num f.quotient f.quiet_until f.drifting f.quiet rows

-- another number and other rows
abbrev pub with_num_rows : ManagerC → ℕ → List PeerC → ManagerC
with_num_rows f num rows = with_fields f f.now num f.quotient f.quiet_until f.drifting f.quiet rows

-- another end of quiet time
abbrev pub with_quiet : ManagerC → ℕ → ℕ → ManagerC
with_quiet f quiet at = with_fields f f.now f.active_num f.quotient at f.drifting quiet f.peers

-- another clock
abbrev pub with_clock : ManagerC → ℕ → Float → ManagerC
with_clock f drifting quotient = with_fields f f.now f.active_num quotient f.quiet_until drifting f.quiet f.peers

-- another reading, end of quiet time and rows
abbrev pub with_reading : ManagerC → ℕ → ℕ → ℕ → List PeerC → ManagerC
with_reading f now quiet at rows = with_fields f now f.active_num f.quotient at f.drifting quiet rows

pub rows_put : (f : ManagerC) → flat_of (manager_of f) ≡ f → (peers : List Peer)
    → with_rows f (map flat_row peers) ≡ flat_of (with_peers (manager_of f) peers)
unfolding flat_of manager_of
rows_put f e peers = ap (λ (g : ManagerC). with_rows g (map flat_row peers)) (sym e)

-- after a pass
pub pass_put : (f : ManagerC) → FlatFits f → (pass : Pass) (rows : List PeerC)
    → rows ≡ map flat_row (pass_over pass f.me f.population (map peer_of f.peers)).peers → with_rows f rows ≡ flat_of (with_peers (manager_of f) (pass_on (manager_of f) pass).peers)
unfolding manager_of
pass_put f k pass rows e = ap (λ (l : List PeerC). with_rows f l) e ∙ rows_put f k.same (pass_over pass f.me f.population (map peer_of f.peers)).peers

pub row_put : (f : ManagerC) → flat_of (manager_of f) ≡ f → (i : ℕ) (p : Peer)
    → with_rows f (set f.peers i (flat_row p)) ≡ flat_of (with_peers (manager_of f) (set (manager_of f).peers i p))
unfolding manager_of
row_put f e i p =
    let rows : map flat_row (set (map peer_of f.peers) i p) ≡ set f.peers i (flat_row p) = map-set flat_row (map peer_of f.peers) i p ∙ ap (λ (l : List PeerC). set l i (flat_row p)) (rows-there f.peers (rows_form f e)) in
    ap (λ (l : List PeerC). with_rows f l) (sym rows) ∙ rows_put f e (set (map peer_of f.peers) i p)

-- ---- a higher number

-- rows that are cleared below the population are those that the rules' pass leaves
pub cleared_put : (f : ManagerC) → FlatFits f → (rows : List PeerC) → ClearedBelow f.population (map peer_of f.peers) (map peer_of rows) → list_all is_row rows ≡ true
    → rows ≡ map flat_row (pass_over P.HigherNumber f.me f.population (map peer_of f.peers)).peers
unfolding manager_of
cleared_put f k rows c form = sym (rows-there rows form) ∙ ap (map flat_row) (only_rules f.me f.population (map peer_of f.peers) (map peer_of rows) k.fits.own_row c)

pub raise_put : (f : ManagerC) → FlatFits f → (num : LeaseNum) (rows : List PeerC)
    → rows ≡ map flat_row (pass_over P.HigherNumber f.me f.population (map peer_of f.peers)).peers → with_num_rows f num.0 rows ≡ flat_of (raised_to (manager_of f) num)
unfolding flat_of manager_of raised_to
raise_put f k num rows e =
    ap (λ (l : List PeerC). with_num_rows f num.0 l) e
    ∙ ap (λ (g : ManagerC). with_num_rows g num.0 (map flat_row (pass_over P.HigherNumber f.me f.population (map peer_of f.peers)).peers)) (sym k.same)

-- the own id's row stays empty
raised-fits : (m : Manager) (num : LeaseNum) → ManagerFits m → ManagerFits (raised_to m num)
unfolding raised_to pass_over
raised-fits m num k = record { reading = k.reading; timeout = k.timeout; few = k.few; own = k.own; own_row = done m.me m.population m.peers k.own_row m.me k.own ∙ ap (λ (r : Peer). (higher_number_row r).peer) k.own_row }

-- what is written of a manager's record that fits, is a flat record that fits
pub flat_fits : (m : Manager) (f : ManagerC) → f ≡ flat_of m → ManagerFits m → FlatFits f
flat_fits m f e k = record { same = ap (λ (g : ManagerC). flat_of (manager_of g)) e ∙ ap flat_of (there_and_back m) ∙ sym e; fits = subst ManagerFits (sym (ap manager_of e ∙ there_and_back m)) k }

pub raised_fits : (f g : ManagerC) (num : LeaseNum) → g ≡ flat_of (raised_to (manager_of f) num) → FlatFits f → FlatFits g
raised_fits f g num e k = flat_fits (raised_to (manager_of f) num) g e (raised-fits (manager_of f) num k.fits)

pub reads : (m : Manager) (f : ManagerC) → f ≡ flat_of m → manager_of f ≡ m
reads m f e = ap manager_of e ∙ there_and_back m

-- under a lower number the record stays
pub lower_stays : (f : ManagerC) (num : LeaseNum) (notice : LeaseNotice) → FlatFits f → num.0 < f.active_num → f ≡ flat_of (accepted_of (manager_of f) num notice).manager
unfolding accepted_of manager_of
lower_stays f num notice k h = rw (lt-ltb num.0 f.active_num h) (sym k.same)

-- ---- time

pub quiet_put : (f : ManagerC) → FlatFits f → (at : ℕ) → at ≡ f.now + drifted (clock_by_flag f.drifting f.quotient) (2 * f.expire_timeout)
    → with_quiet f 1 at ≡ flat_of (assume_unknown_grants (manager_of f))
unfolding flat_of manager_of assume_unknown_grants
quiet_put f k at e = ap (λ (a : ℕ). with_quiet f 1 a) e ∙ ap (λ (g : ManagerC). with_quiet g 1 (f.now + drifted (clock_by_flag f.drifting f.quotient) (2 * f.expire_timeout))) (sym k.same)

pub clock_put : (f : ManagerC) → FlatFits f → (setting : Option ℤ) → with_clock f (clock_drifting (clock_of setting)) (clock_quotient (clock_of setting)) ≡ flat_of (set_drift (manager_of f) setting)
unfolding flat_of manager_of set_drift
clock_put f k setting = ap (λ (g : ManagerC). with_clock g (clock_drifting (clock_of setting)) (clock_quotient (clock_of setting))) (sym k.same)

pub advance_put : (f : ManagerC) → FlatFits f → (to : Reading) (rows : List PeerC)
    → rows ≡ map flat_row (pass_over (advance_pass to) f.me f.population (map peer_of f.peers)).peers
    → with_reading f to.0 (quiet_flag (quiet_at to (quiet_timer_by_flag f.quiet f.quiet_until))) (quiet_until_of (quiet_at to (quiet_timer_by_flag f.quiet f.quiet_until))) rows ≡ flat_of (advance_to (manager_of f) to).manager
unfolding flat_of manager_of advance_to
advance_put f k to rows e =
    let quiet = quiet_at to (quiet_timer_by_flag f.quiet f.quiet_until) in
    ap (λ (l : List PeerC). with_reading f to.0 (quiet_flag quiet) (quiet_until_of quiet) l) e
    ∙ ap (λ (g : ManagerC). with_reading g to.0 (quiet_flag quiet) (quiet_until_of quiet) (map flat_row (pass_over (advance_pass to) f.me f.population (map peer_of f.peers)).peers)) (sym k.same)

-- ---- set-up

map_replicate : {A B : Type 0} (h : A → B) (n : ℕ) (x : A) → map h (replicate n x) ≡ replicate n (h x)
map_replicate h zero x = refl
map_replicate h (suc n) x = ap (λ l. h x ∷ l) (map_replicate h n x)

blank_is : flat_row empty_row ≡ blank_row
unfolding flat_row
blank_is = refl

pub fresh_put : (me n t : ℕ) (now : Reading) (q : Float) (rows : List PeerC) → q ≡ true_quotient → rows ≡ replicate capacity blank_row
    → record { me = me; population = n; expire_timeout = t; now = now.0; active_num = 0; quotient = q; quiet_until = 0; drifting = 0; quiet = 0; peers = rows } ≡ flat_of (fresh me n t now)
unfolding flat_of fresh
fresh_put me n t now q rows e h =
    let k : rows ≡ map flat_row (replicate capacity empty_row) = h ∙ sym (map_replicate flat_row capacity empty_row ∙ ap (replicate capacity) blank_is) in
    λ i. record { me = me; population = n; expire_timeout = t; now = now.0; active_num = 0; quotient = e i; quiet_until = 0; drifting = 0; quiet = 0; peers = k i }
