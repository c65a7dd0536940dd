-- The log's counts, by the invariant, id by id. Assumes nothing.
use mathlib.Core.Path.{◌≡◌, refl, subst}
use mathlib.Core.Bool.{true}
use Rattle.lease.specs.Sets.{count_where}
use Rattle.bitmap.proofs.SetsLemmas.{count_where-same}
use Rattle.lease.specs.Pass as P
use Rattle.lease.specs.declared.Manager.{Manager}
use Rattle.lease.specs.RecordCheck.{record_valid}
use Rattle.lease.specs.Passes.{is_first, pass_over}
use Rattle.lease.specs.Notices.{pass_on}
use Rattle.lease_log.specs.Log.{Journal, Run, is_open, is_leased}
use Rattle.lease_log.specs.LogTheorem.{run_of}
use Rattle.lease_log.specs.Counts.{LogCounts, Counts}
use Rattle.lease_log.proofs.Invariant.{Inv}
use Rattle.lease_log.proofs.LogTheorem.{same-quiet, open_is, lease-is, AfterRun, after-run}

module _ (m : Manager) (j : Journal) (i : Inv m j) (v : record_valid m ≡ true) where
  -- promises sent and open Promise lines
  granted-are : (pass_on m P.Granted).count ≡ count_where (is_open j.log) m.population
  unfolding pass_over
  granted-are = count_where-same (is_first P.Granted m.me m.peers) (is_open j.log) m.population (open_is m j i v)

  -- active promises held and the held side's lines
  leased-are : (pass_on m (P.Leased m.now)).count ≡ count_where (is_leased m.expire_timeout j) m.population
  unfolding pass_over
  leased-are = count_where-same (is_first (P.Leased m.now) m.me m.peers) (is_leased m.expire_timeout j) m.population (lease-is m j i v)

  -- of the record's own population and T
  counted : LogCounts m.population m.expire_timeout m j
  counted = record { population = refl; promises-sent = granted-are; promises-held = leased-are; same-quiet = same-quiet m j i v }

-- which are those of set-up
pub counts : Counts
counts me n t hb now h calls f = there
  where
    r : Run
    r = run_of me n t hb now calls

    e : AfterRun me n t r
    e = after-run me n t hb now h calls f

    there : LogCounts n t r.manager r.journal
    there =
        subst (λ x. LogCounts x t r.manager r.journal) e.same-n
        (subst (λ x. LogCounts r.manager.population x r.manager r.journal) e.same-t (counted r.manager r.journal e.inv e.valid))
