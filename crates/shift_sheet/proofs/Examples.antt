-- The sheets of specs/Examples, by computation. Assumes nothing.
use mathlib.Core.Path.{refl}
use lib.Ieee
use Rattle.lease.specs.Sets.{ids_where, count_where}
use Rattle.lease.specs.Operations.{bad_size}
use Rattle.lease.specs.Drift.{given_up_to, ratio, rate_of, drifted_by, ns_of, product_of, seconds_of}
use Rattle.lease.specs.Clocks.{drifted_on}
use Rattle.lease.specs.Tables.{below}
use Rattle.lease.specs.Handlers.{handle_msg, handle_peer_notice}
use Rattle.lease.specs.Passes.{pass_over}
use Rattle.lease.specs.Notices.{on_peer, handle_new_grants, handle_do_revoke, handle_notice, raised_to, accepted_of}
use Rattle.lease.specs.Calls.{advance_to, assume_unknown_grants, set_drift, grant_set}
use Rattle.lease.specs.RecordCheck.{row_valid, row_empty, row_valid_at, rows_valid, limits_valid, record_valid}
use Rattle.lease.specs.SetUp.{fresh, setup_of}
use Rattle.lease.specs.Rules.{notice_of, advance_of, quiet_of, drift_of}
use Rattle.shift_sheet.specs.Sheet.{peer_row, rows_below, count_rows, total_row}
use Rattle.shift_sheet.specs.Examples.{SmallSites, QuietAndDrift}

pub small-sites : SmallSites
unfolding drifted_on below handle_msg handle_peer_notice pass_over on_peer handle_notice raised_to accepted_of row_valid row_empty row_valid_at rows_valid limits_valid record_valid fresh setup_of notice_of peer_row rows_below count_rows total_row
small-sites = record { small_site = refl; alone = refl }

pub quiet-and-drift : QuietAndDrift
unfolding ids_where count_where bad_size given_up_to ratio rate_of drifted_by ns_of product_of seconds_of lib.Ieee.eq lib.Ieee.div lib.Ieee.of_int lib.Ieee.mul lib.Ieee.add drifted_on below handle_msg handle_peer_notice pass_over on_peer handle_new_grants handle_do_revoke handle_notice raised_to accepted_of advance_to assume_unknown_grants set_drift grant_set row_valid row_empty row_valid_at rows_valid limits_valid record_valid fresh setup_of notice_of advance_of quiet_of drift_of peer_row rows_below count_rows total_row
quiet-and-drift = record { in_quiet_time = refl; grant_set_has_four = refl; almost_over = refl; over = refl }
