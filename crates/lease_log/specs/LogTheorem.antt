-- THE LOG THEOREM of the rules (rule 11.5): after any list of calls from an accepted set-up, refused ones and questions included (rule
-- 11.6), the log decides the grant set, the lease set and the lease count. Statements only.
use Rattle.std.specs.Prelude.{◌≡◌, List, true, not, cond, ℕ, ◌+◌, eqb, Ok}
use Rattle.lease.specs.Types.{Bitmap, Reading}
use Rattle.lease.specs.Bitmaps.{bitmap_where}
use Rattle.lease.specs.Sets.{count_where}
use Rattle.lease.specs.declared.Manager.{Manager}
use Rattle.lease.specs.RecordCheck.{record_valid}
use Rattle.lease.specs.SetUp.{setup_of}
use Rattle.lease.specs.Rules.{grant_set_of, lease_set_of, lease_cnt_of}
use Rattle.lease.specs.Verdicts.{Call}
pub use Rattle.reachable.specs.Reachable.{Typed, AllTyped}
use Rattle.lease_log.specs.Log.{Journal, Run, journal_at, run_from, promise_lines, ended_lines, is_open, quiet_time, is_leased}

-- What the journal says that the grant set, the lease set and the lease count are, of a manager with own id me, population n and T = t.
abbrev pub grants_by : ℕ → ℕ → ℕ → Journal → Bitmap
grants_by me n t j = cond (quiet_time t j) (bitmap_where n (λ p. not (eqb p me))) (bitmap_where n (is_open j.log))

abbrev pub leases_by : ℕ → ℕ → Journal → Bitmap
leases_by n t j = bitmap_where n (is_leased t j)

abbrev pub lease_count_by : ℕ → ℕ → Journal → ℕ
lease_count_by n t j = 1 + count_where (is_leased t j) n

-- The Promise lines are the ended ones and one for each peer with an open one.
abbrev pub Balanced : ℕ → Journal → Type 0
Balanced n j = promise_lines j.log ≡ ended_lines j.log + count_where (is_open j.log) n

-- What the log decides of the record m; and m is not refused with 15 (rule 5.4).
pub record LogDecides (me n t : ℕ) (m : Manager) (j : Journal) : Type 0 where
  pub grants : grant_set_of m ≡ Ok (grants_by me n t j)
  pub promises : Balanced n j
  pub leases : lease_set_of m ≡ Ok (leases_by n t j)
  pub count : lease_cnt_of m ≡ Ok (lease_count_by n t j)
  pub never-15 : record_valid m ≡ true

-- The rules' run over a list of calls, from set-up's own rule.
abbrev pub run_of : ℕ → ℕ → ℕ → ℕ → Reading → List Call → Run
run_of me n t heartbeat now calls = run_from (record { manager = (setup_of me n t heartbeat now).manager; journal = journal_at now }) calls

abbrev pub LogTheorem : Type 0
LogTheorem =
    (me n t heartbeat : ℕ) (now : Reading) → (setup_of me n t heartbeat now).outcome ≡ (Ok tt) → (calls : List Call) → AllTyped calls
    → LogDecides me n t (run_of me n t heartbeat now calls).manager (run_of me n t heartbeat now calls).journal
