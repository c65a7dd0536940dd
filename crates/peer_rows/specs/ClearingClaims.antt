-- Rule 7.3: what `ClearedBelow` says beside the rules' own pass. That the code clears below k, for
-- every k, is `clear_below`'s contract and its loop's invariant. Statements only.
use Rattle.std.specs.Prelude.{ℕ, ◌≡◌, true, List}
use Rattle.lease.specs.Bitmaps.{capacity}
use Rattle.lease.specs.declared.LeaseNum.{LeaseNum}
use Rattle.lease.specs.declared.Peer.{Peer}
use Rattle.lease.specs.declared.Manager.{Manager}
use Rattle.lease.specs.Pass as P
use Rattle.lease.specs.Rows.{row_at, empty_row}
use Rattle.lease.specs.Passes.{pass_over}
use Rattle.lease.specs.Notices.{with_num, raised_to}
use Rattle.lease.specs.RecordCheck.{record_valid}
use Rattle.peer_rows.specs.Clearing.{ClearedBelow}

-- Of the rows as they are found, one list alone is cleared below k.
abbrev pub SaysAll : Type 0
SaysAll = (k : ℕ) (before a b : List Peer) → ClearedBelow k before a → ClearedBelow k before b → a ≡ b

-- The rules' own pass, which skips the own id: where the own row is empty, as it is in each record
-- that is not refused, it clears below k,
abbrev pub RulesClear : Type 0
RulesClear = (own k : ℕ) (before : List Peer) → row_at before own ≡ empty_row → ClearedBelow k before (pass_over P.HigherNumber own k before).peers

-- and what is cleared below k is what the rules' pass leaves, for every k.
abbrev pub OnlyRules : Type 0
OnlyRules = (own k : ℕ) (before after : List Peer) → row_at before own ≡ empty_row → ClearedBelow k before after → after ≡ (pass_over P.HigherNumber own k before).peers

-- At the population: a record whose rows are cleared below it is, under the number, the record that
-- is raised to that number.
abbrev pub Raised : Type 0
Raised = (m : Manager) (num : LeaseNum) (after : List Peer) → row_at m.peers m.me ≡ empty_row → ClearedBelow m.population m.peers after → with_num m num after ≡ raised_to m num

-- Once a record that is not refused has a higher number, no id has an entry in any table.
abbrev pub AllCleared : Type 0
AllCleared = (m : Manager) (num : LeaseNum) → record_valid m ≡ true → ClearedBelow capacity m.peers (raised_to m num).peers
