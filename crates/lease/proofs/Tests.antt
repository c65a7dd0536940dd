-- Tests in a row, as the rules write them.
use mathlib.Core.Path.{◌≡◌, refl, sym}
use mathlib.Core.Bool.{Bool, true, false, cond, true≢false, ◌&&◌}

-- both parts of a test that goes on where the first holds
pub both : (a b : Bool) → cond a b false ≡ true → (a ≡ true) × (b ≡ true)
both true b e = (refl, e)
both false b e = (e, cc)

-- both parts of a conjunction
pub fst-of : (a b : Bool) → (a && b) ≡ true → a ≡ true
fst-of true b e = refl
fst-of false b e = e

pub snd-of : (a b : Bool) → (a && b) ≡ true → b ≡ true
snd-of true b e = e
snd-of false b e = absurd (true≢false (sym e))

-- what holds of either outcome of a test, with what the test said
pub by-test : {A : Type 0} (P : A → Type 0) (test : Bool) {x y : A} → (test ≡ true → P x) → (test ≡ false → P y) → P (cond test x y)
by-test P true f g = f refl
by-test P false f g = g refl
