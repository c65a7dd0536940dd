-- Rule 10: the numbers of the refusals, and of the calls on a record each call's own refusals in their order (rule 10.30).
use Rattle.std.specs.Prelude.{ℕ, Bool, cond, not, eqb, leb, ltb, Option, None, Some, Result, Ok, Err}
use Rattle.bitmap.specs.Operations.{bad_size}
use Rattle.bitmap.specs.declared.Bitmap.{Bitmap}
use Rattle.timer.specs.declared.Reading.{Reading}
use Rattle.lease.specs.declared.LeaseNotice.{LeaseNotice}
use Rattle.lease.specs.declared.LeaseNotice.TheVariants as N
use Rattle.lease.specs.declared.Refusal.{Refusal}
use Rattle.lease.specs.declared.Refusal.TheVariants as R
use Rattle.lease.specs.Limits.{reading_valid}

-- refusal N is rule 10.N
abbrev pub refusal_number : Refusal → ℕ
refusal_number R.TimeoutOutOfRange = 1
refusal_number R.HeartbeatTooSlow = 2
refusal_number R.PopulationOutOfRange = 3
refusal_number R.OwnNotBelowPopulation = 4
refusal_number R.ReadingTooHigh = 5
refusal_number R.ReadingBelowPresent = 6
refusal_number R.PeerNotBelowPopulation = 7
refusal_number R.PeerIsOwn = 8
refusal_number R.SetSizeNotPopulation = 9
refusal_number R.SetSizeOutOfRange = 12
refusal_number R.InvalidRecord = 15

-- a notice about one peer, and time left: 7, the peer is not below the population; then 8, it is the own id
abbrev pub peer_refusal : ℕ → ℕ → ℕ → Result (Unit {0}) Refusal
peer_refusal n me id = cond (leb n id) (Err R.PeerNotBelowPopulation) (cond (eqb id me) (Err R.PeerIsOwn) (Ok tt))

-- NewGrants and DoRevoke with a set: 9, its size is not the population
abbrev pub set_refusal : ℕ → Option Bitmap → Result (Unit {0}) Refusal
set_refusal n None = Ok tt
set_refusal n (Some b) = cond (eqb b.size n) (Ok tt) (Err R.SetSizeNotPopulation)

abbrev pub notice_refusal : ℕ → ℕ → LeaseNotice → Result (Unit {0}) Refusal
notice_refusal n me (N.NewGrants set bar) = set_refusal n set
notice_refusal n me (N.DoRevoke set) = set_refusal n set
notice_refusal n me N.ClearHeld = Ok tt
notice_refusal n me (N.RecvLeaseMsg id msg) = peer_refusal n me id
notice_refusal n me (N.GrantTimeout id) = peer_refusal n me id
notice_refusal n me (N.LeaseTimeout id) = peer_refusal n me id

-- advance: 5, the reading is over the greatest; then 6, it is below the present one (the same is accepted)
abbrev pub advance_refusal : Reading → Reading → Result (Unit {0}) Refusal
advance_refusal now to = cond (not (reading_valid to)) (Err R.ReadingTooHigh) (cond (ltb to.0 now.0) (Err R.ReadingBelowPresent) (Ok tt))

-- refresh: 12, the size of its set is not 1 to the capacity; it need not be the population
abbrev pub refresh_refusal : Option Bitmap → Result (Unit {0}) Refusal
refresh_refusal None = Ok tt
refresh_refusal (Some b) = cond (bad_size b.size) (Err R.SetSizeOutOfRange) (Ok tt)

-- refused by the first refusal that applies, else done
abbrev pub unless : {A : Type 0} → Result (Unit {0}) Refusal → (Refusal → A) → A → A
unless (Ok x) refused done = done
unless (Err e) refused done = refused e

-- rule 10.30: first 15, the record; then the call's own refusals; then what it does
abbrev pub judged : {A : Type 0} → Bool → Result (Unit {0}) Refusal → (Refusal → A) → A → A
judged valid check refused done = cond valid (unless check refused done) (refused R.InvalidRecord)
