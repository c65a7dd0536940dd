-- A manager whose calls leave the record that the rules leave meets the log theorem: the record that it has come to is the rules' own.
-- Assumes nothing.
use mathlib.Core.Path.{◌≡◌, refl, ap, sym, ◌∙◌}
use mathlib.Core.List.{List}
use Rattle.lease.specs.declared.Manager.{Manager}
use Rattle.lease.specs.Rules.{grant_set_of, lease_set_of, lease_cnt_of}
use Rattle.lease.specs.Verdicts.{Call, verdict}
use Rattle.lease_log.specs.Log.{Journal, journal_at, Run, stepped, run_from}
use Rattle.lease_log.specs.LogTheorem.{LogDecides, run_of}
use Rattle.lease_log.specs.Program.{Chain, stop, step, Ruled, LogTheoremOfRuled}
use Rattle.lease_log.proofs.LogTheorem.{left-stepped, log-theorem}

-- the record that the manager has come to is the one that the rules have come to
follows : {m m' : Manager} {cs : List Call} → Chain Ruled m cs m' → (j : Journal) → m' ≡ (run_from (record { manager = m; journal = j }) cs).manager
follows stop j = refl
follows (step {m} {m₁} {m₂} {c} {cs} s tr) j =
    let r : Run = stepped (record { manager = m; journal = j }) c (verdict m c) in
    follows tr r.journal
    ∙ ap (λ x. (run_from (record { manager = x; journal = r.journal }) cs).manager) (s ∙ sym (left-stepped (record { manager = m; journal = j }) c (verdict m c)))

pub log-theorem-of-ruled : LogTheoremOfRuled
log-theorem-of-ruled me n t hb now ok calls f m tr g l k ag al ak = record {
  grants = ag ∙ ap grant_set_of here ∙ d.grants;
  promises = d.promises;
  leases = al ∙ ap lease_set_of here ∙ d.leases;
  count = ak ∙ ap lease_cnt_of here ∙ d.count;
}
  where
    d : LogDecides me n t (run_of me n t hb now calls).manager (run_of me n t hb now calls).journal
    d = log-theorem me n t hb now ok calls f

    here : m ≡ (run_of me n t hb now calls).manager
    here = follows tr (journal_at now)
