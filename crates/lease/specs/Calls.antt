-- Rules 8 and 9: the calls other than notices, on a record that is not refused.
use Rattle.std.specs.Prelude.{ℕ, ◌+◌, ◌*◌, ◌%◌, Bool, true, false, cond, List, leb, ltb, Option, None, Some, Ok, ℤ, Result, Err, []}
use Rattle.lease.specs.declared.Answered.{Answered}
use Rattle.lease.specs.declared.Line.{Line}
use Rattle.timer.specs.declared.Timer.{Timer}
use Rattle.bitmap.specs.declared.Bitmap.{Bitmap}
use Rattle.drift.specs.declared.Clock.{Clock}
use Rattle.drift.specs.declared.Clock.TheVariants as K
use Rattle.drift.specs.Drift.{quotient_of}
use Rattle.timer.specs.declared.Reading.{Reading}
use Rattle.timer.specs.Timers.{drifted, ms_left}
use Rattle.lease.specs.declared.Peer.{Peer}
use Rattle.lease.specs.declared.LeaseAction.TheVariants.{GrantTimeout}
use Rattle.lease.specs.declared.Manager.{Manager}
use Rattle.lease.specs.Pass.{Pass}
use Rattle.lease.specs.Pass as P
use Rattle.lease.specs.declared.FiredTimer.{FiredTimer}
use Rattle.lease.specs.declared.FiredTimers.{FiredTimers}
use Rattle.lease.specs.declared.Refusal.{Refusal}
use Rattle.lease.specs.declared.Advanced.{Advanced}
use Rattle.lease.specs.Rows.{row_at}
use Rattle.lease.specs.Fired.{fired_of, fired_array}
use Rattle.lease.specs.Notices.{line, pass_on, with_peers}

-- the record with another reading, clock and quiet timer, and other rows
abbrev pub with_time : Manager → Reading → Clock → Option Reading → List Peer → Manager
with_time m now clock quiet rows =
    record {
      me = m.me;
      population = m.population;
      expire_timeout = m.expire_timeout;
      now = now;
      active_num = m.active_num;
      clock = clock;
      quiet_timer = quiet;
      peers = rows;
    }

-- ---- quiet time

-- rule 8.4: quiet time is over at the first reading at or past its end
abbrev pub quiet_fires : Reading → Option Reading → Bool
quiet_fires now None = false
quiet_fires now (Some d) = leb d.0 now.0

abbrev pub quiet_at : Reading → Option Reading → Option Reading
quiet_at now None = None
quiet_at now (Some d) = cond (leb d.0 now.0) None (Some d)

abbrev pub is_quiet : Reading → Option Reading → Bool
is_quiet now None = false
is_quiet now (Some d) = ltb now.0 d.0

-- rule 8.4: the line that says so once, under number 0, of the id that follows the own one
abbrev pub quiet_end : Bool → ℕ → ℕ → Option Line
quiet_end true own n = Some (line (record { 0 = 0 }) (GrantTimeout ((own + 1) % n)))
quiet_end false own n = None

-- rule 8.4, the Rust's `assume_unknown_grants`: quiet time from now for the drifted 2T, whatever was before
unfoldable pub assume_unknown_grants : Manager → Manager
assume_unknown_grants m =
    with_time m m.now m.clock (Some (record { 0 = m.now.0 + drifted m.clock (2 * m.expire_timeout) })) m.peers

-- ---- advance

-- rule 8.3: the timers that fire, those of the two sets, by the deadlines that they have before they explode
unfoldable pub fired_by : Manager → Reading → List FiredTimer
fired_by m to = fired_of m.peers (pass_on m (P.Advance to)).first (pass_on m (P.Advance to)).second

-- rules 8.1 to 8.4: the reading is the new one, each timer whose deadline is reached explodes, and the answer has the two sets, the list, and
-- the quiet-end line
unfoldable pub advance_to : Manager → Reading → Answered Advanced
advance_to m to =
    record {
      outcome =
          Ok
          (record {
            sent = (pass_on m (P.Advance to)).first;
            held = (pass_on m (P.Advance to)).second;
            quiet_end = quiet_end (quiet_fires to m.quiet_timer) m.me m.population;
            fired = fired_array (fired_by m to);
          });
      manager = with_time m to m.clock (quiet_at to m.quiet_timer) (pass_on m (P.Advance to)).peers;
    }

-- the sets that it answers, with the quiet-end line
abbrev pub sets_of : Result Advanced Refusal → Result (Bitmap × Bitmap × Option Line) Refusal
sets_of (Ok a) = Ok (a.sent, a.held, a.quiet_end)
sets_of (Err k) = Err k

-- the timers that it lists; none where it is refused
abbrev pub fired_in : Result Advanced Refusal → FiredTimers
fired_in (Ok a) = a.fired
fired_in (Err k) = fired_array []

-- ---- refresh and drift

-- rule 8.5, the Rust's `attempt_refresh`: T is drifted once for all peers
abbrev pub refresh_pass : Manager → Option Bitmap → Pass
refresh_pass m set = P.Refresh set m.now (drifted m.clock m.expire_timeout)

unfoldable pub attempt_refresh : Manager → Option Bitmap → Answered Bitmap
attempt_refresh m set =
    record { outcome = Ok (pass_on m (refresh_pass m set)).first; manager = with_peers m (pass_on m (refresh_pass m set)).peers }

-- rules 3.3 and 8.6: true, or an i8 of percent
abbrev pub clock_of : Option ℤ → Clock
clock_of None = K.True
clock_of (Some d) = K.Drifting (quotient_of d)

unfoldable pub set_drift : Manager → Option ℤ → Manager
set_drift m setting = with_time m m.now (clock_of setting) m.quiet_timer m.peers

-- ---- questions

-- rule 9.1: in quiet time all but the own id, else the peers with a promise sent
unfoldable pub grant_set : Manager → Bitmap
grant_set m = cond (is_quiet m.now m.quiet_timer) (pass_on m P.Everyone).first (pass_on m P.Granted).first

-- rule 9.2: the peers with an active held promise
unfoldable pub lease_set : Manager → Bitmap
lease_set m = (pass_on m (P.Leased m.now)).first

-- rule 9.3: one more than that set has ids
unfoldable pub lease_cnt : Manager → ℕ
lease_cnt m = 1 + (pass_on m (P.Leased m.now)).count

-- rule 9.4: none without a held promise, else the ms to its deadline, rounded up
abbrev pub left_on : Reading → Option Timer → Option ℕ
left_on now None = None
left_on now (Some t) = Some (ms_left now t)

abbrev pub time_left : Manager → ℕ → Option ℕ
time_left m id = left_on m.now (row_at m.peers id).promise_held
