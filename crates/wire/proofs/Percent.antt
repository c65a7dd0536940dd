-- A number below 256 less 128: in the range of an `i8`, and what the code computes of it through an `i16`. Assumes nothing.
use mathlib.Core.Path.{◌≡◌, sym, ap, ◌∙◌, subst}
use Prim.Native.Nat.{ℕ, suc, ◌-◌, ◌%◌, ◌≤◌, ◌<◌}
use native.Mathlib.Nat.{lt_of_lt_of_le, mod-lt}
use native.Mathlib.Omega.{arith}
use mathlib.Core.Bool.{Bool, true, false, cond}
use lib.IntN.{ℤ, pos, negsuc, sub_ℕ, ◌-ℤ◌}
use lib.Signed.{mag}
use lib.Dec.{ltb, lit≤, lit<}
use mir.Syntax.{w8, w16}
use mir.Val.{SFits, to_z, of_z}
use mir.ValLaws.{to_z_pos, to_z-of_z}

small : (r : ℕ) → r < 256 → mag (sub_ℕ r 128) < 128
small r h = go (ltb r 128)
  where
    go : (b : Bool) → mag (cond b (negsuc (128 - suc r)) (pos (r - 128))) < 128
    go true = omega arith
    go false = omega arith

below : (n : ℕ) → n % 256 < 256
below n = mod-lt n (lit< tt)

wider : {a b : ℕ} → a ≤ b → (n : ℕ) → n < a → n < b
wider h n k = lt_of_lt_of_le k h

pub fits8 : (n : ℕ) → SFits w8 (sub_ℕ (n % 256) 128)
fits8 n = record { sfits = small (n % 256) (below n) }

fits16 : (n : ℕ) → SFits w16 (sub_ℕ (n % 256) 128)
fits16 n = record { sfits = wider {a = 128} {b = 32768} (lit≤ tt) (mag (sub_ℕ (n % 256) 128)) (small (n % 256) (below n)) }

-- what the machine reads back
read : (n : ℕ) → to_z w16 (n % 256) ≡ pos (n % 256)
read n = to_z_pos w16 (n % 256) (wider {a = 256} {b = 32768} (lit≤ tt) (n % 256) (below n))

abbrev pub less : ℕ → ℤ
less n = to_z w16 (n % 256) -ℤ pos 128

pub less-fits : (n : ℕ) → SFits w16 (less n)
less-fits n = subst (λ (z : ℤ). SFits w16 (z -ℤ pos 128)) (sym (read n)) (fits16 n)

pub read-less : (n : ℕ) → to_z w16 (of_z w16 (less n)) ≡ sub_ℕ (n % 256) 128
read-less n = ap (λ (z : ℤ). to_z w16 (of_z w16 (z -ℤ pos 128))) (read n) ∙ to_z-of_z w16 (sub_ℕ (n % 256) 128) (fits16 n)
