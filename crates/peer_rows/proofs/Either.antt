-- The ids of either of two sets. Assumes nothing.
use Prim.Native.Nat.{ℕ, zero, suc, ◌<◌, ◌≤◌, max}
use mathlib.Core.Path.{◌≡◌, refl, sym, ap, ◌∙◌}
use mathlib.Core.Bool.{Bool, true, false, ◌&&◌, ◌||◌, and-false, true≢false}
use native.Mathlib.Omega.{arith}
use lib.Dec.{eqb, ltb}
use borrow.Author.Tests.{ltb-true, lt-ltb}
use Rattle.std.specs.Int.{bit_at}
use Rattle.std.specs.Int.Bits.{bit_or}
use Rattle.std.proofs.lemmas.Nat.Bits.{bit_at_or, bit_at-lt}
use Rattle.bitmap.proofs.SetsLemmas.{member-beyond}
use Rattle.lease.specs.Sets.{member}
use Rattle.lease.specs.Types.{Bitmap}
use Rattle.lease.specs.Bitmaps.{is_one}
use Rattle.peer_rows.specs.declared.pass.Marks.{Marks}
use Rattle.peer_rows.specs.Marks.{either}

-- a set of no id
pub none_in : (b : Bitmap) (i : ℕ) → b.bits ≡ 0 → is_one b i ≡ false
none_in b i e = rw (e, member-beyond 0 0 i (omega arith) (omega arith), and-false)

-- an id is in the one that joins two sets if it is in one of them
pub member_or : (a b i : ℕ) → member (bit_or a b) i ≡ (member a i || member b i)
member_or a b i = ap (λ (x : ℕ). eqb x 1) (bit_at_or a b i) ∙ go (bit_at a i) (bit_at b i) (bit_at-lt a i) (bit_at-lt b i)
  where
    go : (x y : ℕ) → x < 2 → y < 2 → eqb (max x y) 1 ≡ (eqb x 1 || eqb y 1)
    go zero zero h k = refl
    go zero (suc zero) h k = refl
    go (suc zero) zero h k = refl
    go (suc zero) (suc zero) h k = refl
    go (suc (suc x)) y h k = absurd (omega (arith, h))
    go zero (suc (suc y)) h k = absurd (omega (arith, k))
    go (suc zero) (suc (suc y)) h k = absurd (omega (arith, k))

and-or : (low lower x y : Bool) → (low ≡ true → lower ≡ true) → (low && x) ≡ true → (lower && (x || y)) ≡ true
and-or true lower true y wide h = rw (wide refl) refl
and-or true lower false y wide h = absurd (true≢false (sym h))
and-or false lower x y wide h = absurd (true≢false (sym h))

-- below a size, so below a larger one
wider : (i s t : ℕ) → s ≤ t → ltb i s ≡ true → ltb i t ≡ true
wider i s t le h = lt-ltb i t (omega (arith, ltb-true i s h))

or-swap : (x y : Bool) → (x || y) ≡ (y || x)
or-swap true true = refl
or-swap true false = refl
or-swap false true = refl
or-swap false false = refl

pub in_first : (due : Marks) (i : ℕ) → is_one due.first i ≡ true → is_one (either due) i ≡ true
in_first due i on =
    let size = (either due).size in
    ap (λ (b : Bool). ltb i size && b) (member_or due.first.bits due.second.bits i)
    ∙ and-or (ltb i due.first.size) (ltb i size) (member due.first.bits i) (member due.second.bits i) (wider i due.first.size size (omega arith)) on

pub in_second : (due : Marks) (i : ℕ) → is_one due.second i ≡ true → is_one (either due) i ≡ true
in_second due i on =
    let size = (either due).size in
    ap (λ (b : Bool). ltb i size && b) (member_or due.first.bits due.second.bits i ∙ or-swap (member due.first.bits i) (member due.second.bits i))
    ∙ and-or (ltb i due.second.size) (ltb i size) (member due.second.bits i) (member due.first.bits i) (wider i due.second.size size (omega arith)) on
