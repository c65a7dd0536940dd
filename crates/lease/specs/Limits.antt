-- Rule 6.1: set-up's limits, which the record check (rule 5.3) looks at again.
use Rattle.std.specs.Prelude.{ℕ, Bool, cond, false, leb, ltb}
use Rattle.bitmap.specs.Bitmaps.{capacity}
use Rattle.timer.specs.declared.Reading.{Reading}
use Rattle.timer.specs.Timers.{max_reading}

abbrev pub within : ℕ → ℕ → ℕ → Bool
within low x high = cond (leb low x) (leb x high) false

-- rule 10.1: T is 100 ms to 10 s
abbrev pub timeout_valid : ℕ → Bool
timeout_valid t = within 100000000 t 10000000000

-- rule 10.3: the population is 1 to the capacity, which is what sets and the record have room for
abbrev pub population_valid : ℕ → Bool
population_valid n = within 1 n capacity

-- rule 10.4: the own id is below the population
abbrev pub own_valid : ℕ → ℕ → Bool
own_valid me n = ltb me n

-- rule 3.1: a reading is at most 9,223,372,036,854,775,807 ns
abbrev pub reading_valid : Reading → Bool
reading_valid now = leb now.0 max_reading
