-- The reading from which timers are due (rule 4.5): an armed one's deadline. Definitions only.
use Rattle.std.specs.Prelude.{ℕ, zero, suc, ◌≤◌, ◌<◌, Option, None, Some, List, min}
use Rattle.lease.specs.Types.{Timer, Unarmed, Armed, Exploded}
use Rattle.lease.specs.declared.Peer.{Peer}
use Rattle.lease.specs.Rows.{row_at, promise_timer}

-- Above every reading: of what is not armed.
abbrev pub never : ℕ
never = 18_446_744_073_709_551_615

abbrev pub timer_due : Timer → ℕ
timer_due Unarmed = never
timer_due (Armed deadline) = deadline.0
timer_due Exploded = never

abbrev pub entry_due : Option Timer → ℕ
entry_due None = never
entry_due (Some t) = timer_due t

-- The earliest of a row, and of the rows of the ids below n. A manager's sent guards are unarmed (rule 5.3), and are not asked.
unfoldable pub row_due : Peer → ℕ
row_due row = min (entry_due (promise_timer row.promise_sent)) (min (entry_due row.guard_held) (entry_due row.promise_held))

unfoldable pub rows_due : ℕ → List Peer → ℕ
rows_due zero rows = never
rows_due (suc n) rows = min (rows_due n rows) (row_due (row_at rows n))

-- ---- that no timer but a sent guard is due at a reading below b

abbrev pub NotBefore : ℕ → Option Timer → Type 0
NotBefore b None = Unit
NotBefore b (Some Unarmed) = Unit
NotBefore b (Some (Armed deadline)) = b ≤ deadline.0
NotBefore b (Some Exploded) = Unit

abbrev pub RowNotBefore : ℕ → Peer → Type 0
RowNotBefore b row = NotBefore b (promise_timer row.promise_sent) × NotBefore b row.guard_held × NotBefore b row.promise_held

-- Of the ids below n.
unfoldable pub RowsNotBefore : ℕ → ℕ → List Peer → Type 0
RowsNotBefore b n rows = (i : ℕ) → i < n → RowNotBefore b (row_at rows i)

-- No sent guard of them is armed.
abbrev pub NotArmed : Option Timer → Type 0
NotArmed None = Unit
NotArmed (Some Unarmed) = Unit
NotArmed (Some (Armed deadline)) = ⊥
NotArmed (Some Exploded) = Unit

unfoldable pub GuardsUnarmed : ℕ → List Peer → Type 0
GuardsUnarmed n rows = (i : ℕ) → i < n → NotArmed (row_at rows i).guard_sent
