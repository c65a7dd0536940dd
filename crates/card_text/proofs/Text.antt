-- The text of a number in columns: how long it is, and how text is laid into a list. Assumes nothing.
use Prim.Native.Nat.{ℕ, zero, suc, ◌/◌, ◌≤◌}
use mathlib.Core.Path.{◌≡◌, refl}
use mathlib.Core.List.{List, ◌++◌}
use native.Mathlib.Nat.{zero-add}
use native.Mathlib.Numerals.{add-one}
use lib.ListN.{length, drop, length-append}
use lib.Seq.{sets, sets-eq}
use Rattle.card_text.specs.Columns.{places, column}

-- ---- the length

pub length-places : (w n : ℕ) → length (places w n) ≡ w
unfolding places
length-places zero n = refl
length-places (suc w) n = simp (length-append, length-places w (n / 10), add-one)

pub length-column : (w n : ℕ) → length (column w n) ≡ w
unfolding column
length-column zero n = refl
length-column (suc w) n = simp (length-append, length-places w (n / 10), add-one)

-- ---- text laid into a list

-- text from the start on
pub sets-laid : (xs text : List ℕ) → length text ≤ length xs → sets xs 0 text ≡ text ++ drop (length text) xs
sets-laid xs text h = rw (← zero-add (length text)) (sets-eq text xs 0 (rw zero-add h))
