-- Sets of ids as numbers, id i as 2 to the i, and counts of ids. Definitions only.
use Rattle.std.specs.Prelude.{ℕ, zero, suc, ◌+◌, ◌/◌, ◌%◌, ◌^◌, Bool, true, false, eqb}

-- Whether the set has the id i.
abbrev pub member : ℕ → ℕ → Bool
member s i = eqb ((s / 2 ^ i) % 2) 1

-- What the id i adds to a set.
abbrev pub weight : Bool → ℕ → ℕ
weight true i = 2 ^ i
weight false i = 0

-- The set of the ids below n of which p says true.
unfoldable pub ids_where : (ℕ → Bool) → ℕ → ℕ
ids_where p zero = 0
ids_where p (suc n) = ids_where p n + weight (p n) n

-- What an id adds to a count.
abbrev pub one : Bool → ℕ
one true = 1
one false = 0

-- How many ids below n p says true of.
unfoldable pub count_where : (ℕ → Bool) → ℕ → ℕ
count_where p zero = 0
count_where p (suc n) = count_where p n + one (p n)
