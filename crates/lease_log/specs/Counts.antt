-- The log's counts, in quiet time too: after any list of calls from an accepted set-up as many peers have an open Promise line as have a
-- promise sent, and as many are in by the held side's lines as have an active promise held. Statements only.
use Rattle.std.specs.Prelude.{◌≡◌, List, ℕ, Ok}
use Rattle.lease.specs.Sets.{count_where}
use Rattle.lease.specs.Types.{Reading}
use Rattle.lease.specs.Pass as P
use Rattle.lease.specs.declared.Manager.{Manager}
use Rattle.lease.specs.Notices.{pass_on}
use Rattle.lease.specs.Calls.{is_quiet}
use Rattle.lease.specs.SetUp.{setup_of}
use Rattle.lease.specs.Verdicts.{Call}
use Rattle.lease_log.specs.Log.{Journal, is_open, quiet_time, is_leased}
use Rattle.lease_log.specs.LogTheorem.{AllTyped, run_of}

-- Of the record m beside its journal, where the population is n and T is t; and quiet time is the log's (rule 11.4).
pub record LogCounts (n t : ℕ) (m : Manager) (j : Journal) : Type 0 where
  pub population : m.population ≡ n
  pub promises-sent : (pass_on m P.Granted).count ≡ count_where (is_open j.log) n
  pub promises-held : (pass_on m (P.Leased m.now)).count ≡ count_where (is_leased t j) n
  pub same-quiet : is_quiet m.now m.quiet_timer ≡ quiet_time t j

abbrev pub Counts : Type 0
Counts =
    (me n t heartbeat : ℕ) (now : Reading) → (setup_of me n t heartbeat now).outcome ≡ (Ok tt) → (calls : List Call) → AllTyped calls
    → LogCounts n t (run_of me n t heartbeat now calls).manager (run_of me n t heartbeat now calls).journal
