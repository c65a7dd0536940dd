-- The log of the rules' actions over a list of calls, and what it says (rules 11.1 to 11.4). Definitions only.
use Rattle.std.specs.Prelude.{List, [], ◌∷◌, ◌++◌, Bool, true, false, not, cond, ◌&&◌, ◌||◌, ℕ, ◌+◌, ◌*◌, leb, ltb, eqb}
use Rattle.lease.specs.Sets.{one}
use Rattle.lease.specs.Types.{Clock, Reading}
use Rattle.lease.specs.ClockCases as K
use Rattle.lease.specs.Timers.{drifted}
use Rattle.lease.specs.declared.LeaseNum.{LeaseNum}
use Rattle.lease.specs.declared.LeaseMsg.{LeaseMsg}
use Rattle.lease.specs.declared.LeaseMsg.TheVariants as M
use Rattle.lease.specs.declared.LeaseAction.{LeaseAction}
use Rattle.lease.specs.declared.LeaseAction.TheVariants as A
use Rattle.lease.specs.declared.Line.{Line}
use Rattle.lease.specs.declared.Manager.{Manager}
use Rattle.lease.specs.Calls.{clock_of}
use Rattle.lease.specs.Verdicts.{Call, notice, advance, quiet-start, refresh, drift, grant-set, lease-set, lease-cnt, time-left, Verdict, refused, done, verdict}

-- ---- the log

-- A line of the log (rule 11.1): the number and the action of a line of an accepted notice, with the reading and the clock of that moment.
pub data LogLine : Type 0 where
  log-line : LeaseNum → LeaseAction → Reading → Clock → LogLine

-- The lines of a notice as lines of the log.
abbrev pub stamped : Reading → Clock → List Line → List LogLine
stamped r c [] = []
stamped r c (x ∷ l) = log-line x.0 x.1 r c ∷ stamped r c l

-- Is the action about the peer p? LeaseCleared and HigherNumber are about every peer.
abbrev pub concerns : LeaseAction → ℕ → Bool
concerns (A.SendLeaseMsg q msg) p = eqb q p
concerns (A.BcastLeaseMsgs set msg) p = false
concerns (A.NextRefresh q) p = eqb q p
concerns (A.GrantRemoved q held) p = eqb q p
concerns A.LeaseCleared p = true
concerns (A.GrantTimeout q) p = eqb q p
concerns (A.LeaseTimeout q) p = eqb q p
concerns A.HigherNumber p = true
concerns (A.GuardAcceptBar q bar) p = eqb q p

-- ---- Promise lines and what ends them (rule 11.2)

-- Is it Promise?
abbrev pub says_promise : LeaseMsg → Bool
says_promise (M.Guard bar) = false
says_promise M.GuardReply = false
says_promise M.Promise = true
says_promise (M.PromiseReply held) = false
says_promise M.Revoke = false
says_promise (M.RevokeReply held) = false

-- A Promise line is the message Promise, sent to a peer.
abbrev pub is_promise : LeaseAction → Bool
is_promise (A.SendLeaseMsg q msg) = says_promise msg
is_promise (A.BcastLeaseMsgs set msg) = false
is_promise (A.NextRefresh q) = false
is_promise (A.GrantRemoved q held) = false
is_promise A.LeaseCleared = false
is_promise (A.GrantTimeout q) = false
is_promise (A.LeaseTimeout q) = false
is_promise A.HigherNumber = false
is_promise (A.GuardAcceptBar q bar) = false

-- GrantRemoved or GrantTimeout for that peer ends it, and so does HigherNumber.
abbrev pub is_end : LeaseAction → Bool
is_end (A.SendLeaseMsg q msg) = false
is_end (A.BcastLeaseMsgs set msg) = false
is_end (A.NextRefresh q) = false
is_end (A.GrantRemoved q held) = true
is_end A.LeaseCleared = false
is_end (A.GrantTimeout q) = true
is_end (A.LeaseTimeout q) = false
is_end A.HigherNumber = true
is_end (A.GuardAcceptBar q bar) = false

-- Does one of these lines end a Promise line for p before them?
abbrev pub ended_in : ℕ → List LogLine → Bool
ended_in p [] = false
ended_in p (log-line n a r c ∷ l) = (concerns a p && is_end a) || ended_in p l

-- How many Promise lines for p no later line has ended.
abbrev pub open_lines : ℕ → List LogLine → ℕ
open_lines p [] = 0
open_lines p (log-line n a r c ∷ l) = one ((concerns a p && is_promise a) && not (ended_in p l)) + open_lines p l

-- Has p a Promise line that no later line has ended?
abbrev pub is_open : List LogLine → ℕ → Bool
is_open l p = leb 1 (open_lines p l)

-- How many Promise lines there are, of all peers, and how many of them are ended.
abbrev pub promise_lines : List LogLine → ℕ
promise_lines [] = 0
promise_lines (log-line n a r c ∷ l) = one (is_promise a) + promise_lines l

-- Is it a Promise line that a line after it ends?
abbrev pub is_ended : LeaseAction → List LogLine → Bool
is_ended (A.SendLeaseMsg q msg) l = says_promise msg && ended_in q l
is_ended (A.BcastLeaseMsgs set msg) l = false
is_ended (A.NextRefresh q) l = false
is_ended (A.GrantRemoved q held) l = false
is_ended A.LeaseCleared l = false
is_ended (A.GrantTimeout q) l = false
is_ended (A.LeaseTimeout q) l = false
is_ended A.HigherNumber l = false
is_ended (A.GuardAcceptBar q bar) l = false

abbrev pub ended_lines : List LogLine → ℕ
ended_lines [] = 0
ended_lines (log-line n a r c ∷ l) = one (is_ended a l) + ended_lines l

-- ---- in and out on the held side (rule 11.3)

-- A peer's last held-side line: none yet, an "in" line with its reading and clock, an "out" line.
pub data Last : Type 0 where
  no_line : Last
  in-at : Reading → Clock → Last
  out : Last

-- PromiseReply{held:true} is an "in" line; RevokeReply, LeaseTimeout, LeaseCleared and HigherNumber are "out" lines.
abbrev pub after_msg : Reading → Clock → LeaseMsg → Last → Last
after_msg r c (M.Guard bar) h = h
after_msg r c M.GuardReply h = h
after_msg r c M.Promise h = h
after_msg r c (M.PromiseReply true) h = in-at r c
after_msg r c (M.PromiseReply false) h = h
after_msg r c M.Revoke h = h
after_msg r c (M.RevokeReply held) h = out

-- The last held-side line of the peer that an action is about, after it.
abbrev pub held_after : Reading → Clock → LeaseAction → Last → Last
held_after r c (A.SendLeaseMsg q msg) h = after_msg r c msg h
held_after r c (A.BcastLeaseMsgs set msg) h = h
held_after r c (A.NextRefresh q) h = h
held_after r c (A.GrantRemoved q held) h = h
held_after r c A.LeaseCleared h = out
held_after r c (A.GrantTimeout q) h = h
held_after r c (A.LeaseTimeout q) h = out
held_after r c A.HigherNumber h = out
held_after r c (A.GuardAcceptBar q bar) h = h

-- The number of the last HigherNumber, 0 before one.
abbrev pub top_after : ℕ → LeaseAction → ℕ → ℕ
top_after n (A.SendLeaseMsg q msg) top = top
top_after n (A.BcastLeaseMsgs set msg) top = top
top_after n (A.NextRefresh q) top = top
top_after n (A.GrantRemoved q held) top = top
top_after n A.LeaseCleared top = top
top_after n (A.GrantTimeout q) top = top
top_after n (A.LeaseTimeout q) top = top
top_after n A.HigherNumber top = n
top_after n (A.GuardAcceptBar q bar) top = top

-- The same over the lines that follow.
abbrev pub top_of : ℕ → List LogLine → ℕ
top_of top [] = top
top_of top (log-line n a r c ∷ l) = top_of (top_after n.0 a top) l

-- What a line makes of p's last held-side line. One under a number below that of the last HigherNumber before it is skipped.
abbrev pub held_by : ℕ → ℕ → LogLine → Last → Last
held_by p top (log-line n a r c) h = cond (ltb n.0 top) h (cond (concerns a p) (held_after r c a h) h)

-- p's last held-side line after more lines, and after all of the log.
abbrev pub last_from : ℕ → ℕ → Last → List LogLine → Last
last_from p top h [] = h
last_from p top h (log-line n a r c ∷ l) = last_from p (top_after n.0 a top) (held_by p top (log-line n a r c) h) l

abbrev pub last_held : ℕ → List LogLine → Last
last_held p l = last_from p 0 no_line l

-- ---- the journal: the log, and what else of the accepted calls decides

-- The last quiet start, with its reading and clock (rule 11.4).
pub data QuietStart : Type 0 where
  never : QuietStart
  since : Reading → Clock → QuietStart

pub record Journal : Type 0 where
  pub now : Reading  -- of the last accepted advance, or set-up's
  pub clock : Clock  -- by the last accepted drift setting, true before one
  pub quiet : QuietStart
  pub log : List LogLine

-- The journal at an accepted set-up.
abbrev pub journal_at : Reading → Journal
journal_at now = record { now = now; clock = K.True; quiet = never; log = [] }

-- The journal after an accepted call with these lines. An advance adds no line: the quiet-end line is left out by where it comes from.
abbrev pub noted : Journal → Call → List Line → Journal
noted j (notice num x) l = record { now = j.now; clock = j.clock; quiet = j.quiet; log = j.log ++ stamped j.now j.clock l }
noted j (advance to) l = record { now = to; clock = j.clock; quiet = j.quiet; log = j.log }
noted j quiet-start l = record { now = j.now; clock = j.clock; quiet = since j.now j.clock; log = j.log }
noted j (refresh set) l = j
noted j (drift x) l = record { now = j.now; clock = clock_of x; quiet = j.quiet; log = j.log }
noted j grant-set l = j
noted j lease-set l = j
noted j lease-cnt l = j
noted j (time-left id) l = j

-- ---- the rules over a list of calls

-- A record with its journal.
pub record Run : Type 0 where
  pub manager : Manager
  pub journal : Journal

-- The next run. A refused call changes nothing.
abbrev pub stepped : Run → Call → Verdict → Run
stepped r c (refused k) = r
stepped r c (done l m) = record { manager = m; journal = noted r.journal c l }

-- The run that a list of calls leads to.
abbrev pub run_from : Run → List Call → Run
run_from r [] = r
run_from r (c ∷ l) = run_from (stepped r c (verdict r.manager c)) l

-- ---- what the journal says, where T is t

-- It is quiet time (rule 11.4) while now is below the reading at the last quiet start plus (2T drifted by the setting then); before one, never.
abbrev pub quiet_since : ℕ → Reading → QuietStart → Bool
quiet_since t now never = false
quiet_since t now (since r c) = ltb now.0 (r.0 + drifted c (2 * t))

abbrev pub quiet_time : ℕ → Journal → Bool
quiet_time t j = quiet_since t j.now j.quiet

-- A peer is in the lease set (rule 11.3) while its last held-side line is an "in" line and that line's reading plus (T drifted by that line's
-- setting) is above now.
abbrev pub in_lease : ℕ → Reading → Last → Bool
in_lease t now no_line = false
in_lease t now (in-at r c) = ltb now.0 (r.0 + drifted c t)
in_lease t now out = false

abbrev pub is_leased : ℕ → Journal → ℕ → Bool
is_leased t j p = in_lease t j.now (last_held p j.log)
