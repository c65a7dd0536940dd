-- Every claim of specs/Claims under its name. Assumes nothing.
use Rattle.std.specs.Prelude.{Option, None, Some, Result, Ok, Err}
use mathlib.Core.Path.{◌≡◌, refl, ap, sym, subst, ◌∙◌}
use mathlib.Core.Bool.{Bool, true, false}
use mathlib.Core.List.{List, [], ◌∷◌, ◌++◌}
use Prim.Native.Nat.{ℕ, ◌+◌, ◌≤◌, ◌<◌}
use native.Mathlib.Nat.{le_refl}
use native.Mathlib.Omega.{arith}
use Rattle.lease.specs.Bitmaps.{capacity}
use Rattle.lease.specs.Types.{Reading}
use Rattle.lease.specs.Timers.{farthest}
use Rattle.lease.specs.declared.Answered.{Answered}
use Rattle.lease.specs.declared.Refusal.{Refusal}
use Rattle.lease.specs.declared.LeaseNum.{LeaseNum}
use Rattle.lease.specs.declared.Manager.{Manager}
use Rattle.lease.specs.Rows.{row_at}
use Rattle.lease.specs.Fired.{sent_deadline}
use Rattle.lease.specs.Notices.{raised_to}
use Rattle.lease.specs.RecordCheck.{row_valid, record_valid}
use Rattle.lease.specs.Refusals.{unless}
use Rattle.lease.specs.SetUp.{setup_refusal, fresh, setup_of}
use Rattle.lease.specs.Verdicts.{Call, verdict}
use Rattle.lease.proofs.RecordCheck.{few-of}
use Rattle.lease.proofs.Computing.{by_the_rules}
use Rattle.reachable.specs.Reachable.{Typed, AllTyped, left_by, led_to, Reachable, set-up, called}
use Rattle.reachable.specs.Claims.{ListsReach, ReachedByLists, ReachableValid, Never15, sent_reach, held_reach, quiet_reach, quiet_deadline, HowFar, NoticesKeep, AdvancesKeep, QuietStartsKeep, DriftSettingsKeep, MarkedNear, RefreshesKeep, NearStays, RefreshNeedsNear}
use Rattle.reachable.proofs.Rows.{row-near, sent-far}
use Rattle.reachable.proofs.Records.{QuietOk, Bounded, fresh-bounded, raise-keeps, record-valid, bounded-of}
use Rattle.reachable.proofs.Refused.{number_in, number-below}
use Rattle.reachable.proofs.Calls.{notice-bounded, advance-bounded, quiet-bounded, drift-bounded, refresh-bounded, call-bounded}

-- ---- reachable records

-- an accepted set-up passed its tests, and gives the fresh record
pub accepted : (me n t hb : ℕ) (now : Reading) → (setup_of me n t hb now).outcome ≡ (Ok tt) → (setup_refusal me n t hb now ≡ Ok tt) × ((setup_of me n t hb now).manager ≡ fresh me n t now)
unfolding setup_of
accepted me n t hb now h = go (setup_refusal me n t hb now) refl h
  where
    both_ways : Result (Unit {0}) Refusal → Answered (Unit {0})
    both_ways z = unless z (λ k. record { outcome = Err k; manager = fresh 0 0 0 (record { 0 = 0 }) }) (record { outcome = Ok tt; manager = fresh me n t now })

    go : (z : Result (Unit {0}) Refusal) → setup_refusal me n t hb now ≡ z → (both_ways z).outcome ≡ Ok tt
        → (setup_refusal me n t hb now ≡ Ok tt) × ((both_ways z).manager ≡ fresh me n t now)
    go (Ok x) e h = (e, refl)
    go (Err k) e h = absurd (let z : ◌≡◌ {A = ℕ} 0 1 = cc in omega arith)

wide : (b : Bool) → 2000000000000 ≤ sent_reach b
wide true = omega arith
wide false = omega arith

near : (b : Bool) → sent_reach b ≤ farthest
near true = omega arith
near false = omega arith

bounded : (m : Manager) → Reachable m → Bounded sent_reach held_reach quiet_reach m
bounded _ (set-up me n t hb now a) =
    let k = accepted me n t hb now a in
    subst (λ m. Bounded sent_reach held_reach quiet_reach m) (sym k.1) (fresh-bounded sent_reach held_reach quiet_reach me n t hb now k.0)
bounded _ (called m r c f) = call-bounded sent_reach held_reach quiet_reach wide (omega arith) (omega arith) (omega arith) m (bounded m r) c f

lists : (m : Manager) → Reachable m → (calls : List Call) → AllTyped calls → Reachable (led_to m calls)
lists m r [] f = r
lists m r (c ∷ cs) f = lists (left_by m (verdict m c)) (called m r c f.0) cs f.1

pub lists-reach : ListsReach
lists-reach me n t hb now a calls f = lists (setup_of me n t hb now).manager (set-up me n t hb now a) calls f

-- a call more at the end of a list
led-more : (calls : List Call) (c : Call) (m : Manager) → led_to m (calls ++ (c ∷ [])) ≡ left_by (led_to m calls) (verdict (led_to m calls) c)
led-more [] c m = refl
led-more (x ∷ xs) c m = led-more xs c (left_by m (verdict m x))

typed-more : (calls : List Call) (c : Call) → AllTyped calls → Typed c → AllTyped (calls ++ (c ∷ []))
typed-more [] c f g = (g, tt)
typed-more (x ∷ xs) c f g = (f.0, typed-more xs c f.1 g)

pub reached-by-lists : ReachedByLists
reached-by-lists _ (set-up me n t hb now a) = record { me = me; n = n; t = t; heartbeat = hb; now = now; accepted = a; calls = []; typed = tt; end = refl }
reached-by-lists _ (called m r c f) =
    let l = reached-by-lists m r in
    record {
      me = l.me;
      n = l.n;
      t = l.t;
      heartbeat = l.heartbeat;
      now = l.now;
      accepted = l.accepted;
      calls = l.calls ++ (c ∷ []);
      typed = typed-more l.calls c l.typed f;
      end = ap (λ x. left_by x (verdict x c)) l.end ∙ sym (led-more l.calls c (setup_of l.me l.n l.t l.heartbeat l.now).manager);
    }

pub reachable-valid : ReachableValid
reachable-valid m r = record-valid sent_reach held_reach quiet_reach near (omega arith) (omega arith) m (bounded m r)

pub never-15 : Never15
never-15 m r c k e = let below = number-below m (reachable-valid m r) c in subst (λ v. number_in v < 15) e below

pub how-far : HowFar
how-far m r = record { rows = λ p l. row-near sent_reach held_reach m.now (row_at m.peers p) (b.rows p (let f = few-of m (reachable-valid m r) in omega arith)); quiet = quiet m.quiet_timer b.quiet-ok }
  where
    b : Bounded sent_reach held_reach quiet_reach m
    b = bounded m r

    quiet : (q : Option Reading) → QuietOk quiet_reach m.now q → quiet_deadline q ≤ m.now.0 + quiet_reach
    quiet None k = omega arith
    quiet (Some d) k = k.1

-- ---- any valid record

abbrev far : Bool → ℕ
far b = farthest

module _ (m : Manager) (v : record_valid m ≡ true) where
  any : Bounded far farthest farthest m
  any = bounded-of far m v (λ p l e. sent-far m.now (row_at m.peers p) e)

  again : (x : Manager) → Bounded far farthest farthest x → record_valid x ≡ true
  again x i = record-valid far farthest farthest (λ b. le_refl farthest) (le_refl farthest) (le_refl farthest) x i

-- with a higher number
pub raised-valid : (m : Manager) (num : LeaseNum) → record_valid m ≡ true → record_valid (raised_to m num) ≡ true
raised-valid m num v = again m v _ (raise-keeps far farthest farthest m (any m v) num)

pub notices-keep : NoticesKeep
notices-keep m num x v = again m v _ (notice-bounded far farthest farthest m (any m v) (λ b. omega arith) (omega arith) num x)

pub advances-keep : AdvancesKeep
advances-keep m to v = again m v _ (advance-bounded far farthest farthest m (any m v) to)

pub quiet-starts-keep : QuietStartsKeep
quiet-starts-keep m v = again m v _ (quiet-bounded far farthest farthest m (any m v) (omega arith))

pub drift-settings-keep : DriftSettingsKeep
drift-settings-keep m x f v = again m v _ (drift-bounded far farthest farthest m (any m v) x f)

module _ (m : Manager) (v : record_valid m ≡ true) (k : MarkedNear m) where
  marked-reach : (p : ℕ) (mark : Bool) → (row_at m.peers p).refresh_mark ≡ mark → p < m.population → row_valid m.now (row_at m.peers p) ≡ true
      → sent_deadline (row_at m.peers p) ≤ m.now.0 + sent_reach mark
  marked-reach p true e l r = k p l e
  marked-reach p false e l r = sent-far m.now (row_at m.peers p) r

  marked : Bounded sent_reach farthest farthest m
  marked = bounded-of sent_reach m v (λ p l r. marked-reach p (row_at m.peers p).refresh_mark refl l r)

marked-valid : (m : Manager) → Bounded sent_reach farthest farthest m → record_valid m ≡ true
marked-valid m i = record-valid sent_reach farthest farthest near (le_refl farthest) (le_refl farthest) m i

pub refreshes-keep : RefreshesKeep
refreshes-keep m set v k = marked-valid _ (refresh-bounded sent_reach farthest farthest m (marked m v k) (omega arith) set)

pub near-stays : NearStays
near-stays m v k c f = (marked-valid next i, λ p l e. subst (λ b. sent_deadline (row_at next.peers p) ≤ next.now.0 + sent_reach b) e (row-near sent_reach farthest next.now (row_at next.peers p) (i.rows p (small p l))).0)
  where
    next : Manager
    next = left_by m (verdict m c)

    i : Bounded sent_reach farthest farthest next
    i = call-bounded sent_reach farthest farthest wide (omega arith) (omega arith) (omega arith) m (marked m v k) c f

    small : (p : ℕ) → p < next.population → p < capacity
    small p l = let f = few-of next (marked-valid next i) in omega arith

pub refresh-needs-near : RefreshNeedsNear
unfolding by_the_rules
refresh-needs-near = record { before = refl; after = refl }
