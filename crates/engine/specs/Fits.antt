-- What notices and a refresh ask of a checked record. Definitions only.
use Rattle.std.specs.Prelude.{ℕ, ◌<◌}
use Rattle.lease.specs.declared.LeaseNotice.{LeaseNotice}
use Rattle.lease.specs.declared.LeaseNotice.TheVariants as N
use Rattle.lease.specs.declared.Manager.{Manager}
use Rattle.lease.specs.Rows.{row_at}
use Rattle.peer_rows.specs.Fits.{NearGrant}

-- A notice about one peer is about an id below the population.
abbrev pub PeerBelow : ℕ → LeaseNotice → Type 0
PeerBelow n (N.NewGrants set bar) = Unit
PeerBelow n (N.DoRevoke set) = Unit
PeerBelow n N.ClearHeld = Unit
PeerBelow n (N.RecvLeaseMsg id msg) = id < n
PeerBelow n (N.GrantTimeout id) = id < n
PeerBelow n (N.LeaseTimeout id) = id < n

-- No sent promise's deadline is far past the reading.
unfoldable pub NearRows : Manager → Type 0
NearRows m = (i : ℕ) → i < m.population → NearGrant m.now (row_at m.peers i).promise_sent
