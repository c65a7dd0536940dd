-- A reading that a run carries with a record, below which none of its timers is due. Definitions only.
use Rattle.std.specs.Prelude.{ℕ, cond, ltb, min, Option, []}
use Rattle.lease.specs.Bitmaps.{bitmap_of}
use Rattle.lease.specs.declared.Advanced.{Advanced}
use Rattle.lease.specs.declared.Line.{Line}
use Rattle.lease.specs.Fired.{fired_array}
use Rattle.lease.specs.Types.{Reading}
use Rattle.lease.specs.declared.LeaseNotice.{LeaseNotice}
use Rattle.lease.specs.declared.LeaseNotice.TheVariants as N
use Rattle.lease.specs.declared.Manager.{Manager}
use Rattle.lease.specs.Rows.{row_at}
use Rattle.peer_rows.specs.Due.{row_due, rows_due, RowsNotBefore}

abbrev pub NotBefore : ℕ → Manager → Type 0
NotBefore b m = RowsNotBefore b m.population m.peers

-- After a notice about one peer that peer's timers may be due earlier; the others arm none.
abbrev pub due_noticed : ℕ → LeaseNotice → Manager → ℕ
due_noticed b (N.NewGrants set bar) m = b
due_noticed b (N.DoRevoke set) m = b
due_noticed b N.ClearHeld m = b
due_noticed b (N.RecvLeaseMsg id msg) m = min b (row_due (row_at m.peers id))
due_noticed b (N.GrantTimeout id) m = min b (row_due (row_at m.peers id))
due_noticed b (N.LeaseTimeout id) m = min b (row_due (row_at m.peers id))

-- After an advance that had to look at the rows it is their earliest deadline.
abbrev pub due_advanced : ℕ → Reading → Manager → ℕ
due_advanced b to m = cond (ltb to.0 b) b (rows_due m.population m.peers)

-- What an advance answers at which no timer fires.
abbrev pub nothing_fired : ℕ → Option Line → Advanced
nothing_fired n line = record { sent = bitmap_of n 0; held = bitmap_of n 0; quiet_end = line; fired = fired_array [] }
