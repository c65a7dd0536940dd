-- What is claimed of reachable records, and of any that refusal 15 lets through (rules 5.3, 5.4). Statements only.
use Rattle.std.specs.Prelude.{◌≡◌, ◌+◌, ◌≤◌, ◌<◌, ℕ, ℤ, Bool, true, false, List, Option, None, Some, Ok, set, replicate}
use Rattle.lease.specs.Bitmaps.{capacity}
use Rattle.lease.specs.Types.{Bitmap, Reading, True, Armed}
use Rattle.lease.specs.Timers.{farthest}
use Rattle.lease.specs.declared.LeaseNum.{LeaseNum}
use Rattle.lease.specs.declared.LeaseNotice.{LeaseNotice}
use Rattle.lease.specs.declared.Manager.{Manager}
use Rattle.lease.specs.declared.Peer.{Peer}
use Rattle.lease.specs.declared.Refusal.{Refusal}
use Rattle.lease.specs.Rows.{row_at, empty_row, with_sent}
use Rattle.lease.specs.Fired.{sent_deadline, held_deadline}
use Rattle.lease.specs.RecordCheck.{record_valid}
use Rattle.lease.specs.Refusals.{refusal_number}
use Rattle.lease.specs.Rules.{notice_of, advance_of, quiet_of, refresh_of, drift_of}
use Rattle.lease.specs.SetUp.{setup_of}
use Rattle.lease.specs.Verdicts.{Call, drift, refused, verdict}
use Rattle.reachable.specs.Reachable.{Typed, AllTyped, left_by, led_to, Reachable}

-- Every list of calls from an accepted set-up leads to a reachable record.
abbrev pub ListsReach : Type 0
ListsReach =
    (me n t heartbeat : ℕ) (now : Reading) → (setup_of me n t heartbeat now).outcome ≡ (Ok tt) → (calls : List Call) → AllTyped calls
    → Reachable (led_to (setup_of me n t heartbeat now).manager calls)

-- And some list leads to each: m is the record that these calls lead to from this set-up.
pub record LedTo (m : Manager) : Type 0 where
  pub me : ℕ
  pub n : ℕ
  pub t : ℕ
  pub heartbeat : ℕ
  pub now : Reading
  pub accepted : (setup_of me n t heartbeat now).outcome ≡ (Ok tt)
  pub calls : List Call
  pub typed : AllTyped calls
  pub end : m ≡ led_to (setup_of me n t heartbeat now).manager calls

abbrev pub ReachedByLists : Type 0
ReachedByLists = (m : Manager) → Reachable m → LedTo m

-- Every reachable record is a manager's (rule 5.3).
abbrev pub ReachableValid : Type 0
ReachableValid = (m : Manager) → Reachable m → record_valid m ≡ true

-- No call on a reachable record is refused with 15: it is done, or refused with a lower number (rules 10.30, 10.15).
abbrev pub Never15 : Type 0
Never15 = (m : Manager) → Reachable m → (c : Call) (k : Refusal) → verdict m c ≡ refused k → refusal_number k < 15

-- ---- how far past now deadlines reach, in ns

-- A sent one: 2,000 s where the peer is marked, for then a refresh may add up to 1,000 s; else 3,000 s.
abbrev pub sent_reach : Bool → ℕ
sent_reach true = 2_000_000_000_000
sent_reach false = farthest

abbrev pub held_reach : ℕ
held_reach = 1_000_000_000_000

abbrev pub quiet_reach : ℕ
quiet_reach = 2_000_000_000_000

-- The end of quiet time, 0 where there is none.
abbrev pub quiet_deadline : Option Reading → ℕ
quiet_deadline None = 0
quiet_deadline (Some d) = d.0

-- The deadlines of a row, 0 where nothing is armed, reach no farther.
abbrev pub RowReaches : Reading → Peer → Type 0
RowReaches now row = (sent_deadline row ≤ now.0 + sent_reach row.refresh_mark) × (held_deadline row ≤ now.0 + held_reach)

-- Of every id and of the end of quiet time.
pub record DeadlinesReach (m : Manager) : Type 0 where
  pub rows : (p : ℕ) → p < m.population → RowReaches m.now (row_at m.peers p)
  pub quiet : quiet_deadline m.quiet_timer ≤ m.now.0 + quiet_reach

abbrev pub HowFar : Type 0
HowFar = (m : Manager) → Reachable m → DeadlinesReach m

-- ---- from any record that refusal 15 lets through

-- Each call, refused or not, leaves such a record again; of a refresh more is asked.
abbrev pub NoticesKeep : Type 0
NoticesKeep = (m : Manager) (num : LeaseNum) (x : LeaseNotice) → record_valid m ≡ true → record_valid (notice_of m num x).manager ≡ true

abbrev pub AdvancesKeep : Type 0
AdvancesKeep = (m : Manager) (to : Reading) → record_valid m ≡ true → record_valid (advance_of m to).manager ≡ true

abbrev pub QuietStartsKeep : Type 0
QuietStartsKeep = (m : Manager) → record_valid m ≡ true → record_valid (quiet_of m).manager ≡ true

abbrev pub DriftSettingsKeep : Type 0
DriftSettingsKeep = (m : Manager) (x : Option ℤ) → Typed (drift x) → record_valid m ≡ true → record_valid (drift_of m x).manager ≡ true

-- A refresh (rule 8.5) does so where the deadlines sent to marked peers are at most 2,000 s past now.
abbrev pub MarkedNear : Manager → Type 0
MarkedNear m =
    (p : ℕ) → p < m.population → (row_at m.peers p).refresh_mark ≡ true → sent_deadline (row_at m.peers p) ≤ m.now.0 + sent_reach true

abbrev pub RefreshesKeep : Type 0
RefreshesKeep = (m : Manager) (set : Option Bitmap) → record_valid m ≡ true → MarkedNear m → record_valid (refresh_of m set).manager ≡ true

-- And where they are so near, every call leaves a record that is valid and so near again: with refreshes a run looks once at both.
abbrev pub NearStays : Type 0
NearStays =
    (m : Manager) → record_valid m ≡ true → MarkedNear m → (c : Call) → Typed c
    → (record_valid (left_by m (verdict m c)) ≡ true) × MarkedNear (left_by m (verdict m c))

-- A refresh of a record whose marked peers' deadlines are farther may leave one that is refused with 15. T is 10 s here, and the deadline sent to a marked peer is 3,000 s past now.
abbrev pub far_row : Peer
far_row = with_sent empty_row None (Some (Armed (record { 0 = farthest }), false)) true

abbrev pub marked_far : Manager
marked_far =
    record {
      me = 1;
      population = 2;
      expire_timeout = 10_000_000_000;
      now = record { 0 = 0 };
      active_num = record { 0 = 0 };
      clock = True;
      quiet_timer = None;
      peers = set (replicate capacity empty_row) 0 far_row;
    }

-- The record is a manager's, and after the refresh it is none.
pub record RefreshNeedsNear : Type 0 where
  pub before : record_valid marked_far ≡ true
  pub after : record_valid (refresh_of marked_far None).manager ≡ false
