-- The wrong managers of rule 20.3, and that the log theorem (rule 11.5), from one small set-up, tells them from one that obeys. Statements only.
use Rattle.std.specs.Prelude.{◌≡◌, false, ℕ, Result, None, Ok}
use Rattle.lease.specs.declared.Answered.{Answered}
use Rattle.lease.specs.declared.Lines.{Lines}
use Rattle.lease.specs.declared.LeaseMsg.TheVariants as M
use Rattle.lease.specs.declared.LeaseAction.TheVariants as A
use Rattle.lease.specs.declared.LeaseNum.{LeaseNum}
use Rattle.lease.specs.declared.LeaseNotice.{LeaseNotice}
use Rattle.lease.specs.declared.LeaseNotice.TheVariants as N
use Rattle.lease.specs.declared.Lines.TheVariants as L
use Rattle.lease.specs.declared.Manager.{Manager}
use Rattle.lease.specs.declared.Refusal.{Refusal}
use Rattle.lease.specs.Rules.{notice_of}
use Rattle.lease.specs.Shorthands.{ms, no, under, start}
use Rattle.lease.specs.Verdicts.{Call, notice, advance, quiet-start, refresh, drift, grant-set, lease-set, lease-cnt, time-left}
use Rattle.lease_log.specs.Program.{Ruled, LogTheoremFor, GrantSet, LeaseSet, LeaseCnt}

-- Notices by P, and all other calls as the rules say.
abbrev pub NoticesBy : (Manager → LeaseNum → LeaseNotice → Manager → Type 0) → Manager → Call → Manager → Type 0
NoticesBy P m (notice num x) m' = P m num x m'
NoticesBy P m (advance to) m' = Ruled m (advance to) m'
NoticesBy P m quiet-start m' = Ruled m quiet-start m'
NoticesBy P m (refresh set) m' = Ruled m (refresh set) m'
NoticesBy P m (drift x) m' = Ruled m (drift x) m'
NoticesBy P m grant-set m' = Ruled m grant-set m'
NoticesBy P m lease-set m' = Ruled m lease-set m'
NoticesBy P m lease-cnt m' = Ruled m lease-cnt m'
NoticesBy P m (time-left p) m' = Ruled m (time-left p) m'

-- The log theorem of a manager with such notices, from the small site's set-up.
abbrev pub SmallLogTheorem : (Manager → LeaseNum → LeaseNotice → Manager → Type 0) → Type 0
SmallLogTheorem P = LogTheoremFor (NoticesBy P) GrantSet LeaseSet LeaseCnt 0 3 1000000000 0 (ms 0) start

-- ---- one that obeys the rules

abbrev pub Obeying : Manager → LeaseNum → LeaseNotice → Manager → Type 0
Obeying m num x m' = Ruled m (notice num x) m'

abbrev pub ObeyingMeets : Type 0
ObeyingMeets = SmallLogTheorem Obeying

-- ---- one that turns all notices down, or keeps its record: the next call gets the record that went in

abbrev pub Untouched : Manager → LeaseNum → LeaseNotice → Manager → Type 0
Untouched m num x m' = m' ≡ m

abbrev pub UntouchedFails : Type 0
UntouchedFails = SmallLogTheorem Untouched → ⊥

-- ---- one that replies PromiseReply{held:false} to everything, as if the peer were in neither table

abbrev pub RepliesFalse : Manager → LeaseNum → LeaseNotice → Manager → Type 0
RepliesFalse m num x m' =
    (r : Answered Lines) × ((r ≡ record { outcome = Ok (L.One (record { 0 = num; 1 = A.SendLeaseMsg 2 (M.PromiseReply false) })); manager = m })
    × (m' ≡ r.manager))

abbrev pub RepliesFalseFails : Type 0
RepliesFalseFails = SmallLogTheorem RepliesFalse → ⊥

-- Whatever its record, that reply to a Promise on a held guard is not what the rules say.
abbrev pub with_guard_held : Manager
with_guard_held = (notice_of start (no 0) (N.RecvLeaseMsg 2 (M.Guard None))).manager

abbrev pub RepliesFalseBreaks : Type 0
RepliesFalseBreaks =
    (r : Answered Lines) → r.outcome ≡ Ok (L.One (under 0 (A.SendLeaseMsg 2 (M.PromiseReply false))))
    → r ≡ notice_of with_guard_held (no 0) (N.RecvLeaseMsg 2 M.Promise) → ⊥

-- ---- one that obeys the first notice, and keeps its record at the later ones

abbrev pub FakesLater : Manager → LeaseNum → LeaseNotice → Manager → Type 0
FakesLater m num x m' = (m ≡ start → Ruled m (notice num x) m') × ((m ≡ start → ⊥) → m' ≡ m)

abbrev pub FakesLaterFails : Type 0
FakesLaterFails = SmallLogTheorem FakesLater → ⊥

-- ---- one that obeys, and answers a lease count of its own

abbrev pub InventsCount : Manager → Result ℕ Refusal → Type 0
InventsCount m r = r ≡ Ok 2

abbrev pub InventsCountFails : Type 0
InventsCountFails = LogTheoremFor Ruled GrantSet LeaseSet InventsCount 0 3 1000000000 0 (ms 0) start → ⊥
