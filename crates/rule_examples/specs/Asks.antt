-- How the lists of rule 20 are written: what is asked, one line after the other, and what the rules answer.
use Rattle.std.specs.Prelude.{◌≡◌, map, List, [], ◌∷◌, ℕ, Bool, false, Option, None, Some, Result, Ok}
use Rattle.lease.specs.Types.{Bitmap, Reading, Armed}
use Rattle.lease.specs.Bitmaps.{bitmap_of}
use Rattle.lease.specs.Timers.{drifted}
use Rattle.lease.specs.declared.Refusal.{Refusal}
use Rattle.lease.specs.declared.Line.{Line}
use Rattle.lease.specs.declared.Lines.{Lines}
use Rattle.lease.specs.declared.Peer.{Peer}
use Rattle.lease.specs.declared.Manager.{Manager}
use Rattle.lease.specs.Rows.{row_at, empty_row, with_held, with_sent}
use Rattle.lease.specs.Calls.{sets_of}
use Rattle.lease.specs.SetUp.{setup_of}
use Rattle.lease.specs.Rules.{notice_of, advance_of, quiet_of, refresh_of, drift_of, grant_set_of, lease_set_of, lease_cnt_of, time_left_of}
use Rattle.lease.specs.Verdicts.{Call, notice, advance, quiet-start, refresh, drift, grant-set, lease-set, lease-cnt, time-left, Verdict, refused, done, verdict}
use Rattle.lease.specs.declared.LeaseMsg.{LeaseMsg}
use Rattle.lease.specs.declared.LeaseNotice.{LeaseNotice}
use Rattle.lease.specs.declared.LeaseNotice.TheVariants as N
use Rattle.lease.specs.declared.LeaseAction.{LeaseAction}
use Rattle.lease.specs.declared.LeaseAction.TheVariants as A
use Rattle.lease.specs.declared.Lines.TheVariants as L
use Rattle.lease.specs.Shorthands.{ms, no, under, start}

-- A line of a list: set the small site up anew, make a call, look at a peer's row, see what a duration becomes under the clock.
pub data Ask : Type 0 where
  anew : Ask
  call : Call → Ask
  look : ℕ → Ask
  lasts : ℕ → Ask

-- What it answers: set-up, a notice, an advance, a call without a value, a set, the lease count, time left; the row; the duration in ns.
pub data Answer : Type 0 where
  set-up : Result (Unit {0}) Refusal → Answer
  noticed : Result Lines Refusal → Answer
  advanced : Result (Bitmap × Bitmap × Option Line) Refusal → Answer
  plain : Result (Unit {0}) Refusal → Answer
  set : Result Bitmap Refusal → Answer
  count : Result ℕ Refusal → Answer
  left : Result (Option ℕ) Refusal → Answer
  row : Peer → Answer
  ns : ℕ → Answer

-- What the rules answer to a call on a record.
abbrev pub answer : Manager → Call → Answer
answer m (notice num x) = noticed (notice_of m num x).outcome
answer m (advance to) = advanced (sets_of (advance_of m to).outcome)
answer m quiet-start = plain (quiet_of m).outcome
answer m (refresh to) = set (refresh_of m to).outcome
answer m (drift x) = plain (drift_of m x).outcome
answer m grant-set = set (grant_set_of m)
answer m lease-set = set (lease_set_of m)
answer m lease-cnt = count (lease_cnt_of m)
answer m (time-left id) = left (time_left_of m id)

-- The record after a call: a refused one leaves it (rule 10.31).
abbrev pub next : Manager → Verdict → Manager
next m (refused k) = m
next m (done l m') = m'

-- The answers to a list, each call on the record that the last one gave.
abbrev pub answers : Manager → List Ask → List Answer
answers m [] = []
answers m (anew ∷ l) = set-up (setup_of 0 3 1000000000 0 (ms 0)).outcome ∷ answers start l
answers m (call c ∷ l) = answer m c ∷ answers (next m (verdict m c)) l
answers m (look p ∷ l) = row (row_at m.peers p) ∷ answers m l
answers m (lasts d ∷ l) = ns (drifted m.clock d) ∷ answers m l

-- Each ask is answered as it says there: one claim about the whole list.
abbrev pub Gives : Manager → List (Ask × Answer) → Type 0
Gives m l = answers m (map (λ (x : Ask × Answer). x.0) l) ≡ map (λ (x : Ask × Answer). x.1) l

-- ---- shorthands: asks

-- A notice under a number; of these, a message from a peer.
abbrev pub say : ℕ → LeaseNotice → Ask
say n x = call (notice (no n) x)

abbrev pub from : ℕ → ℕ → LeaseMsg → Ask
from n p msg = say n (N.RecvLeaseMsg p msg)

-- An advance, to a reading in ms, and in ns.
abbrev pub to : ℕ → Ask
to t = call (advance (ms t))

abbrev pub to-ns : ℕ → Ask
to-ns t = call (advance (record { 0 = t }))

-- ---- shorthands: answers

-- A notice gives no line, one line under a number, one message to a peer.
abbrev pub nothing : Answer
nothing = noticed (Ok L.None)

abbrev pub does : ℕ → LeaseAction → Answer
does n a = noticed (Ok (L.One (under n a)))

abbrev pub sends : ℕ → ℕ → LeaseMsg → Answer
sends n p msg = does n (A.SendLeaseMsg p msg)

-- The sent timers of one set of peers and the held timers of another fire, and quiet time does not end. Sets are numbers: bit i is the id i.
abbrev pub fired : ℕ → ℕ → Answer
fired sent held = advanced (Ok (bitmap_of 3 sent, bitmap_of 3 held, None))

-- A row with nothing but a promise sent, marked or not, or a promise held, and its deadline.
abbrev pub promise_sent_row : Bool → Reading → Peer
promise_sent_row mark deadline = with_sent empty_row None (Some (Armed deadline, false)) mark

abbrev pub promise_held_row : Reading → Peer
promise_held_row deadline = with_held empty_row None (Some (Armed deadline))
