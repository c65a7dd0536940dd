-- The sentence of rule 7.3: the rows when the pass that a higher number asks for is done below k.
-- Definitions only.
use Rattle.std.specs.Prelude.{ℕ, ◌≡◌, ◌<◌, ◌≤◌, List, length, None}
use Rattle.lease.specs.declared.Peer.{Peer}
use Rattle.lease.specs.Rows.{row_at}

-- `before` are the rows as the pass finds them, `after` as it leaves them with the ids below k
-- done.
pub record ClearedBelow (k : ℕ) (before after : List Peer) : Type 0 where
  -- both promise tables are empty below k,
  pub promises_sent : (i : ℕ) → i < k → (row_at after i).promise_sent ≡ None
  pub promises_held : (i : ℕ) → i < k → (row_at after i).promise_held ≡ None
  -- and both guard tables with them;
  pub guards_sent : (i : ℕ) → i < k → (row_at after i).guard_sent ≡ None
  pub guards_held : (i : ℕ) → i < k → (row_at after i).guard_held ≡ None
  -- every mark stays;
  pub marks : (i : ℕ) → (row_at after i).refresh_mark ≡ (row_at before i).refresh_mark
  -- from k on all is as before,
  pub rest : (i : ℕ) → k ≤ i → row_at after i ≡ row_at before i
  -- and there are as many rows.
  pub as_many : length after ≡ length before
