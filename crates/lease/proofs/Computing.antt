-- What a proof unfolds to compute the rules on lists of calls.
use Rattle.std.specs.Prelude.{⊤}
use lib.Ieee.{of_int, add, mul, div, eq}
use Rattle.bitmap.specs.Sets.{ids_where, count_where}
use Rattle.bitmap.specs.Operations.{bad_size}
use Rattle.drift.specs.Clocks.{drifted_on}
use Rattle.drift.specs.Drift.{rate_of, ratio, given_up_to, seconds_of, ns_of, product_of, drifted_by}
use Rattle.lease.specs.Tables.{below}
use Rattle.lease.specs.Handlers.{handle_msg, handle_peer_notice}
use Rattle.lease.specs.Passes.{pass_over}
use Rattle.lease.specs.Notices.{on_peer, handle_new_grants, handle_do_revoke, handle_clear_held, handle_notice, raised_to, accepted_of}
use Rattle.lease.specs.Calls.{advance_to, assume_unknown_grants, attempt_refresh, set_drift, grant_set, lease_set, lease_cnt}
use Rattle.lease.specs.RecordCheck.{row_valid, row_empty, row_valid_at, rows_valid, limits_valid, record_valid}
use Rattle.lease.specs.SetUp.{fresh, setup_of}
use Rattle.lease.specs.Rules.{notice_of, advance_of, quiet_of, refresh_of, drift_of, grant_set_of, lease_set_of, lease_cnt_of, time_left_of}

-- An `unfolding` line that names this opens all that its own line names.
unfoldable pub by_the_rules : ⊤
unfolding ids_where count_where bad_size below drifted_on rate_of ratio given_up_to seconds_of ns_of product_of drifted_by of_int add mul div eq pass_over row_valid row_empty row_valid_at rows_valid limits_valid record_valid handle_msg handle_peer_notice on_peer handle_new_grants handle_do_revoke handle_clear_held handle_notice raised_to accepted_of advance_to assume_unknown_grants attempt_refresh set_drift grant_set lease_set lease_cnt grant_set_of lease_set_of lease_cnt_of time_left_of fresh setup_of notice_of advance_of quiet_of refresh_of drift_of
by_the_rules = tt
