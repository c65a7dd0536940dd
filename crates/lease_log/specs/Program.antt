-- The log theorem (rule 11.5) of any manager with this record, over a chain of calls, each on the record that the last one returned or left.
-- The journal is the rules' own, over the same calls. Statements only.
use Rattle.std.specs.Prelude.{◌≡◌, List, [], ◌∷◌, ℕ, Result, Ok}
use Rattle.lease.specs.declared.Refusal.{Refusal}
use Rattle.lease.specs.Types.{Bitmap, Reading}
use Rattle.lease.specs.declared.Manager.{Manager}
use Rattle.lease.specs.SetUp.{setup_of}
use Rattle.lease.specs.Rules.{grant_set_of, lease_set_of, lease_cnt_of}
use Rattle.lease.specs.Verdicts.{Call, verdict}
pub use Rattle.reachable.specs.Reachable.{left_by}
use Rattle.lease_log.specs.Log.{Journal}
use Rattle.lease_log.specs.LogTheorem.{AllTyped, Balanced, grants_by, leases_by, lease_count_by, run_of}

-- A list of calls, each on the record that the last one returned or left. S is how a manager's calls lead from record to record.
pub data Chain (S : Manager → Call → Manager → Type 0) : Manager → List Call → Manager → Type 0 where
  stop : {m : Manager} → Chain S m [] m
  step : {m m₁ m₂ : Manager} {c : Call} {cs : List Call} → S m c m₁ → Chain S m₁ cs m₂ → Chain S m (c ∷ cs) m₂

-- What the answers g, l and k to grant set, lease set and lease count have to be.
pub record Answers (me n t : ℕ) (j : Journal) (g l : Result Bitmap Refusal) (k : Result ℕ Refusal) : Type 0 where
  pub grants : g ≡ Ok (grants_by me n t j)
  pub promises : Balanced n j
  pub leases : l ≡ Ok (leases_by n t j)
  pub count : k ≡ Ok (lease_count_by n t j)

-- The log theorem of a manager whose calls lead by S from m₀ on; G, L and K say what it answers to grant set, lease set and lease count.
abbrev pub LogTheoremFor : (Manager → Call → Manager → Type 0) → (Manager → Result Bitmap Refusal → Type 0) → (Manager → Result Bitmap Refusal → Type 0) → (Manager → Result ℕ Refusal → Type 0)
    → (me n t heartbeat : ℕ) → Reading → Manager → Type 0
LogTheoremFor S G L K me n t heartbeat now m₀ =
    (calls : List Call) → AllTyped calls → (m : Manager) → Chain S m₀ calls m → (g l : Result Bitmap Refusal) (k : Result ℕ Refusal) → G m g → L m l → K m k
    → Answers me n t (run_of me n t heartbeat now calls).journal g l k

-- ---- a manager that obeys the rules

abbrev pub Ruled : Manager → Call → Manager → Type 0
Ruled m c m' = m' ≡ left_by m (verdict m c)

-- Its answers to the three questions.
abbrev pub GrantSet : Manager → Result Bitmap Refusal → Type 0
GrantSet m r = r ≡ grant_set_of m

abbrev pub LeaseSet : Manager → Result Bitmap Refusal → Type 0
LeaseSet m r = r ≡ lease_set_of m

abbrev pub LeaseCnt : Manager → Result ℕ Refusal → Type 0
LeaseCnt m r = r ≡ lease_cnt_of m

-- Such a manager meets the log theorem from every accepted set-up.
abbrev pub LogTheoremOfRuled : Type 0
LogTheoremOfRuled =
    (me n t heartbeat : ℕ) (now : Reading) → (setup_of me n t heartbeat now).outcome ≡ (Ok tt)
    → LogTheoremFor Ruled GrantSet LeaseSet LeaseCnt me n t heartbeat now (setup_of me n t heartbeat now).manager
