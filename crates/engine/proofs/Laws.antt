-- A notice that no refusal turns down is about a peer below the population, if it is about one; and
-- notices and advances keep a record valid. Assumes nothing.
use Prim.Native.Nat.{ℕ}
use Rattle.std.specs.Prelude.{Ok}
use mathlib.Core.Path.{◌≡◌}
use Rattle.lease.specs.declared.LeaseNotice.{LeaseNotice}
use Rattle.lease.specs.declared.LeaseNotice.TheVariants as N
use Rattle.lease.specs.Refusals.{notice_refusal, advance_refusal}
use Rattle.lease.specs.Notices.{accepted_of}
use Rattle.lease.specs.Calls.{advance_to}
use Rattle.lease.proofs.Judged.{peer-below}
use Rattle.lease.specs.Types.{Reading}
use Rattle.lease.specs.declared.LeaseNum.{LeaseNum}
use Rattle.lease.specs.declared.Manager.{Manager}
use Rattle.lease.specs.RecordCheck.{record_valid}
use Rattle.lease.specs.Rules.{notice_of, advance_of}
use Rattle.reachable.proofs.Reached.{notices-keep, advances-keep}
use mathlib.Core.Bool.{true}
use Rattle.engine.specs.Fits.{PeerBelow}

pub notice_below : (n me : ℕ) (x : LeaseNotice) → notice_refusal n me x ≡ Ok tt → PeerBelow n x
notice_below n me (N.NewGrants set bar) e = tt
notice_below n me (N.DoRevoke set) e = tt
notice_below n me N.ClearHeld e = tt
notice_below n me (N.RecvLeaseMsg id msg) e = peer-below n me id e
notice_below n me (N.GrantTimeout id) e = peer-below n me id e
notice_below n me (N.LeaseTimeout id) e = peer-below n me id e

pub notice_keeps : (m : Manager) (num : LeaseNum) (x : LeaseNotice) → record_valid m ≡ true → notice_refusal m.population m.me x ≡ Ok tt → record_valid (accepted_of m num x).manager ≡ true
unfolding notice_of
notice_keeps m num x v a = rw (v, a) at (notices-keep m num x v)

pub advance_keeps : (m : Manager) (to : Reading) → record_valid m ≡ true → advance_refusal m.now to ≡ Ok tt → record_valid (advance_to m to).manager ≡ true
unfolding advance_of
advance_keeps m to v a = rw (v, a) at (advances-keep m to v)
