-- THE RULES: what each call on a record gives, refusals first (rule 10.30). Set-up is in SetUp.
use Rattle.std.specs.Prelude.{ℕ, Option, Result, Ok, Err, ℤ}
use Rattle.lease.specs.declared.Answered.{Answered}
use Rattle.lease.specs.declared.Refusal.{Refusal}
use Rattle.lease.specs.declared.Lines.{Lines}
use Rattle.bitmap.specs.declared.Bitmap.{Bitmap}
use Rattle.timer.specs.declared.Reading.{Reading}
use Rattle.lease.specs.declared.LeaseNum.{LeaseNum}
use Rattle.lease.specs.declared.LeaseNotice.{LeaseNotice}
use Rattle.lease.specs.declared.Manager.{Manager}
use Rattle.lease.specs.declared.Accepted.{Accepted}
use Rattle.lease.specs.declared.Advanced.{Advanced}
use Rattle.lease.specs.Notices.{accepted_of}
use Rattle.lease.specs.Calls.{advance_to, assume_unknown_grants, attempt_refresh, set_drift, grant_set, lease_set, lease_cnt, time_left}
use Rattle.lease.specs.RecordCheck.{record_valid}
use Rattle.lease.specs.Refusals.{peer_refusal, notice_refusal, advance_refusal, refresh_refusal, judged}

-- ---- calls that change the record: a refused one answers the record that went in (rule 10.31)

abbrev pub notice_given : Accepted → Answered Lines
notice_given a = record { outcome = Ok a.lines; manager = a.manager }

-- rule 10.31: a refused notice does not raise the number
unfoldable pub notice_of : Manager → LeaseNum → LeaseNotice → Answered Lines
notice_of m num notice =
    judged (record_valid m) (notice_refusal m.population m.me notice) (λ k. record { outcome = Err k; manager = m })
    (notice_given (accepted_of m num notice))

-- rule 8.1
unfoldable pub advance_of : Manager → Reading → Answered Advanced
advance_of m to = judged (record_valid m) (advance_refusal m.now to) (λ k. record { outcome = Err k; manager = m }) (advance_to m to)

-- rule 8.4, the Rust's `assume_unknown_grants`
unfoldable pub quiet_of : Manager → Answered (Unit {0})
quiet_of m =
    judged (record_valid m) (Ok tt) (λ k. record { outcome = Err k; manager = m }) (record { outcome = Ok tt; manager = assume_unknown_grants m })

-- rule 8.5, the Rust's `attempt_refresh`
unfoldable pub refresh_of : Manager → Option Bitmap → Answered Bitmap
refresh_of m set = judged (record_valid m) (refresh_refusal set) (λ k. record { outcome = Err k; manager = m }) (attempt_refresh m set)

-- rule 8.6
unfoldable pub drift_of : Manager → Option ℤ → Answered (Unit {0})
drift_of m setting =
    judged (record_valid m) (Ok tt) (λ k. record { outcome = Err k; manager = m }) (record { outcome = Ok tt; manager = set_drift m setting })

-- ---- questions: they change no record (rule 9.5)

-- rule 9.1
unfoldable pub grant_set_of : Manager → Result Bitmap Refusal
grant_set_of m = judged (record_valid m) (Ok tt) (λ k. Err k) (Ok (grant_set m))

-- rule 9.2
unfoldable pub lease_set_of : Manager → Result Bitmap Refusal
lease_set_of m = judged (record_valid m) (Ok tt) (λ k. Err k) (Ok (lease_set m))

-- rule 9.3
unfoldable pub lease_cnt_of : Manager → Result ℕ Refusal
lease_cnt_of m = judged (record_valid m) (Ok tt) (λ k. Err k) (Ok (lease_cnt m))

-- rule 9.4
unfoldable pub time_left_of : Manager → ℕ → Result (Option ℕ) Refusal
time_left_of m id = judged (record_valid m) (peer_refusal m.population m.me id) (λ k. Err k) (Ok (time_left m id))
