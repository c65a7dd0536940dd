-- The one pass over the ids: what a test on an id computes, and what is chosen. Definitions only.
use Rattle.std.specs.Prelude.{ℕ, ◌+◌, ◌≡◌, ◌<◌, Bool}
use Rattle.bitmap.specs.declared.pass.Chosen.{Chosen}
use Rattle.bitmap.specs.Sets.{weight, one, ids_where, count_where}
use Rattle.bitmap.specs.Bitmaps.{number, bitmap_of}

-- Below the size, whatever a call at an id may return is what p says of the id.
abbrev pub Computes : (ℕ → Bool → Type 0) → ℕ → (ℕ → Bool) → Type 0
Computes post size p = (i : ℕ) (on : Bool) → i < size → post i on → on ≡ p i

-- The ids below i of which p says true, as a set of that size, and how many they are.
abbrev pub chosen_below : ℕ → (ℕ → Bool) → ℕ → Chosen
chosen_below size p i = record { set = bitmap_of size (ids_where p i); count = count_where p i }

-- The same of all ids below the size.
abbrev pub chosen_where : ℕ → (ℕ → Bool) → Chosen
chosen_where size p = chosen_below size p size

-- One id more, above all that were chosen.
abbrev pub chosen_with : Chosen → Bool → ℕ → Chosen
chosen_with c on i = record { set = bitmap_of c.set.size (number c.set + weight on i); count = c.count + one on }
