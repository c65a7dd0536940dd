-- What holds of every call on a record: it is refused, or the record and its arguments passed and it is done.
use Rattle.std.specs.Prelude.{Result, Ok, Err}
use mathlib.Core.Path.{◌≡◌, refl}
use mathlib.Core.Bool.{Bool, true, false, cond}
use Prim.Native.Nat.{ℕ, ◌<◌}
use native.Mathlib.Omega.{arith}
use lib.Dec.{eqb, leb}
use borrow.Author.Tests.{leb-false}
use Rattle.lease.specs.declared.Answered.{Answered}
use Rattle.lease.specs.declared.Manager.{Manager}
use Rattle.lease.specs.declared.Refusal.{Refusal}
use Rattle.lease.specs.declared.Refusal.TheVariants.{PeerNotBelowPopulation, PeerIsOwn, InvalidRecord}
use Rattle.lease.specs.RecordCheck.{record_valid}
use Rattle.lease.specs.Refusals.{peer_refusal, unless, judged}

pub judged-by : {A : Type 0} (P : A → Type 0) (valid : Bool) (check : Result (Unit {0}) Refusal) (refused : Refusal → A) (done : A) → ((k : Refusal) → P (refused k))
    → (check ≡ Ok tt → P done)
    → P (judged valid check refused done)
judged-by P valid check refused done r d = go valid check refl
  where
    go : (b : Bool) (z : Result (Unit {0}) Refusal) → check ≡ z → P (cond b (unless z refused done) (refused InvalidRecord))
    go true (Ok x) e = d e
    go true (Err k) e = r k
    go false z e = r InvalidRecord

-- a quiet start and a drift setting: 15 alone refuses them
abbrev pub plain_of : Manager → Manager → Answered (Unit {0})
plain_of m next = judged (record_valid m) (Ok tt) (λ k. record { outcome = Err k; manager = m }) (record { outcome = Ok tt; manager = next })

-- a peer that neither 7 nor 8 turns down is below the population
pub peer-below : (n me id : ℕ) → peer_refusal n me id ≡ Ok tt → id < n
peer-below n me id e = go (leb n id) refl e
  where
    go : (x : Bool) → leb n id ≡ x → ◌≡◌ {A = Result (Unit {0}) Refusal} (cond x (Err PeerNotBelowPopulation) (cond (eqb id me) (Err PeerIsOwn) (Ok tt))) (Ok tt) → id < n
    go true q h = absurd (let w : ◌≡◌ {A = ℕ} 0 1 = cc in omega arith)
    go false q h = leb-false n id q

-- and it is not the own id
pub peer-other : (n me id : ℕ) → peer_refusal n me id ≡ Ok tt → eqb id me ≡ false
peer-other n me id e = go (leb n id) (eqb id me) e
  where
    go : (x y : Bool) → ◌≡◌ {A = Result (Unit {0}) Refusal} (cond x (Err PeerNotBelowPopulation) (cond y (Err PeerIsOwn) (Ok tt))) (Ok tt) → y ≡ false
    go true y h = absurd (let w : ◌≡◌ {A = ℕ} 0 1 = cc in omega arith)
    go false true h = absurd (let w : ◌≡◌ {A = ℕ} 0 1 = cc in omega arith)
    go false false h = refl
