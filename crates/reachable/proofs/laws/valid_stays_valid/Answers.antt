use Rattle.reachable.proofs.Reached.{notices-keep, advances-keep, quiet-starts-keep, drift-settings-keep, refreshes-keep, near-stays, refresh-needs-near}
use Rattle.reachable.proofs.laws.valid_stays_valid.Goals as goal

pub returns-clause-notices : goal.returns-clause-notices
returns-clause-notices c = notices-keep

pub returns-clause-advances : goal.returns-clause-advances
returns-clause-advances c = advances-keep

pub returns-clause-quiet_starts : goal.returns-clause-quiet_starts
returns-clause-quiet_starts c = quiet-starts-keep

pub returns-clause-drift_settings : goal.returns-clause-drift_settings
returns-clause-drift_settings c = drift-settings-keep

pub returns-clause-refreshes : goal.returns-clause-refreshes
returns-clause-refreshes c = refreshes-keep

pub returns-clause-near_stays_near : goal.returns-clause-near_stays_near
returns-clause-near_stays_near c = near-stays

pub returns-clause-refresh_needs_near_deadlines : goal.returns-clause-refresh_needs_near_deadlines
returns-clause-refresh_needs_near_deadlines c = refresh-needs-near
