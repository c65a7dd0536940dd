-- The lines of an answer as they cross to C, plain numbers (rule 13.3). A field that a line does not use is 0. Definitions only.
use Rattle.std.specs.Prelude.{ℕ, Option, None, Some}
use Rattle.lease.specs.declared.Bar.{Bar}
use Rattle.lease.specs.Types.{Bitmap}
use Rattle.lease.specs.Bitmaps as bitmaps
use Rattle.lease.specs.declared.LeaseMsg.{LeaseMsg}
use Rattle.lease.specs.declared.LeaseMsg.TheVariants as M
use Rattle.lease.specs.declared.LeaseAction.{LeaseAction}
use Rattle.lease.specs.declared.LeaseAction.TheVariants as A
use Rattle.lease.specs.declared.Line.{Line}
use Rattle.wire.specs.Flat.{flag}
use Rattle.wire.specs.declared.lines.LineC.{LineC}

-- A line of that code: its number, peer, first and second.
abbrev pub line_c : ℕ → ℕ → ℕ → ℕ → ℕ → LineC
line_c code num peer first second = record { code = code; number = num; peer = peer; first = first; second = second }

abbrev pub no_line : LineC
no_line = line_c 0 0 0 0 0

-- A message to one peer. The rules send no Guard and no Revoke to one peer: code 0.
abbrev pub send_line : ℕ → ℕ → LeaseMsg → LineC
send_line num id (M.Guard bar) = line_c 0 num id 0 0
send_line num id M.GuardReply = line_c 3 num id 0 0
send_line num id M.Promise = line_c 4 num id 0 0
send_line num id (M.PromiseReply held) = line_c 5 num id (flag held) 0
send_line num id M.Revoke = line_c 0 num id 0 0
send_line num id (M.RevokeReply held) = line_c 6 num id (flag held) 0

-- A Guard broadcast to the peers of a set: peer is 1 where second is an accept bar.
abbrev pub guard_line : ℕ → ℕ → Option Bar → LineC
guard_line num set None = line_c 1 num 0 set 0
guard_line num set (Some bar) = line_c 1 num 1 set bar.0

-- A message to the peers of a set. The rules broadcast Guard and Revoke alone: any other has code 0.
abbrev pub bcast_line : ℕ → ℕ → LeaseMsg → LineC
bcast_line num set (M.Guard bar) = guard_line num set bar
bcast_line num set M.GuardReply = line_c 0 num 0 0 0
bcast_line num set M.Promise = line_c 0 num 0 0 0
bcast_line num set (M.PromiseReply held) = line_c 0 num 0 0 0
bcast_line num set M.Revoke = line_c 2 num 0 set 0
bcast_line num set (M.RevokeReply held) = line_c 0 num 0 0 0

abbrev pub action_line : ℕ → LeaseAction → LineC
action_line num (A.SendLeaseMsg id msg) = send_line num id msg
action_line num (A.BcastLeaseMsgs set msg) = bcast_line num (bitmaps.number set) msg
action_line num (A.NextRefresh id) = line_c 7 num id 0 0
action_line num (A.GrantRemoved id held) = line_c 8 num id (flag held) 0
action_line num A.LeaseCleared = line_c 9 num 0 0 0
action_line num (A.GrantTimeout id) = line_c 10 num id 0 0
action_line num (A.LeaseTimeout id) = line_c 11 num id 0 0
action_line num A.HigherNumber = line_c 12 num 0 0 0
action_line num (A.GuardAcceptBar id bar) = line_c 13 num id bar.0 0

unfoldable pub line_of : Line → LineC
line_of line = action_line line.0.0 line.1

-- The lines of the answers that are no actions: the sets of peers whose sent and whose held timers fired, a set, a count, time left.
abbrev pub fired_line : Bitmap → Bitmap → LineC
fired_line sent held = line_c 31 0 0 (bitmaps.number sent) (bitmaps.number held)

abbrev pub set_line : Bitmap → LineC
set_line set = line_c 32 0 set.size (bitmaps.number set) 0

abbrev pub count_line : ℕ → LineC
count_line n = line_c 33 0 0 n 0

-- Peer is 1 where a promise is held.
abbrev pub time_left_line : Option ℕ → LineC
time_left_line None = line_c 34 0 0 0 0
time_left_line (Some ms) = line_c 34 0 1 ms 0
