-- Rules 7 to 10 as one relation: any call on a record, and what the rules make of it, refused by a number, or done, with its lines and the
-- next record. Lists of calls (rules 11 and 20) are read by it.
use Rattle.std.specs.Prelude.{List, [], ◌∷◌, ℕ, Option, Result, Ok, Err, ℤ}
use Rattle.lease.specs.declared.Refusal.{Refusal}
use Rattle.bitmap.specs.declared.Bitmap.{Bitmap}
use Rattle.timer.specs.declared.Reading.{Reading}
use Rattle.lease.specs.declared.LeaseNum.{LeaseNum}
use Rattle.lease.specs.declared.LeaseNotice.{LeaseNotice}
use Rattle.lease.specs.declared.Line.{Line}
use Rattle.lease.specs.declared.Lines.{Lines}
use Rattle.lease.specs.declared.Lines.TheVariants as L
use Rattle.lease.specs.declared.Manager.{Manager}
use Rattle.lease.specs.declared.Advanced.{Advanced}
use Rattle.lease.specs.Rules.{notice_of, advance_of, quiet_of, refresh_of, drift_of, grant_set_of, lease_set_of, lease_cnt_of, time_left_of}

-- a call, by its arguments other than the record
pub data Call : Type 0 where
  notice : LeaseNum → LeaseNotice → Call
  advance : Reading → Call
  quiet-start : Call
  refresh : Option Bitmap → Call
  drift : Option ℤ → Call
  grant-set : Call
  lease-set : Call
  lease-cnt : Call
  time-left : ℕ → Call

pub data Verdict : Type 0 where
  refused : Refusal → Verdict
  done : List Line → Manager → Verdict

-- the lines of a notice as a list
abbrev pub lines_of : Lines → List Line
lines_of L.None = []
lines_of (L.One a) = a ∷ []
lines_of (L.Two a b) = a ∷ b ∷ []
lines_of (L.Three a b c) = a ∷ b ∷ c ∷ []

abbrev pub by_notice : Result Lines Refusal → Manager → Verdict
by_notice (Err k) m = refused k
by_notice (Ok lines) m = done (lines_of lines) m

-- rule 11.1: the quiet-end line is no notice's line, and is not logged
abbrev pub by_advance : Result Advanced Refusal → Manager → Verdict
by_advance (Err k) m = refused k
by_advance (Ok fired) m = done [] m

abbrev pub by_plain : Result (Unit {0}) Refusal → Manager → Verdict
by_plain (Err k) m = refused k
by_plain (Ok tt) m = done [] m

abbrev pub by_set : Result Bitmap Refusal → Manager → Verdict
by_set (Err k) m = refused k
by_set (Ok set) m = done [] m

abbrev pub by_count : Result ℕ Refusal → Manager → Verdict
by_count (Err k) m = refused k
by_count (Ok n) m = done [] m

abbrev pub by_time_left : Result (Option ℕ) Refusal → Manager → Verdict
by_time_left (Err k) m = refused k
by_time_left (Ok x) m = done [] m

abbrev pub verdict : Manager → Call → Verdict
verdict m (notice num x) = by_notice (notice_of m num x).outcome (notice_of m num x).manager
verdict m (advance to) = by_advance (advance_of m to).outcome (advance_of m to).manager
verdict m quiet-start = by_plain (quiet_of m).outcome (quiet_of m).manager
verdict m (refresh set) = by_set (refresh_of m set).outcome (refresh_of m set).manager
verdict m (drift x) = by_plain (drift_of m x).outcome (drift_of m x).manager
verdict m grant-set = by_set (grant_set_of m) m
verdict m lease-set = by_set (lease_set_of m) m
verdict m lease-cnt = by_count (lease_cnt_of m) m
verdict m (time-left id) = by_time_left (time_left_of m id) m
