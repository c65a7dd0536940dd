-- A line cut into parts by `between`: neighbouring parts joined, the whole. Assumes nothing.
use Rattle.std.proofs.Common.{◌≡◌, sym, ℕ, ◌+◌, ◌-◌, ◌≤◌, List, ◌++◌, length, take, drop, arith, length-take-le}
use Rattle.std.specs.List.{between}
use Rattle.std.proofs.lemmas.Slice.{between_is}
use lib.Seq.{take-length, drop_at, drop-append-le, take-add}

-- a list, the whole of it
pub between-whole : (l : List ℕ) → between 0 (length l) l ≡ l
between-whole l = rw between_is (take-length l)

-- two parts that meet
pub between-join : (a b c : ℕ) (l : List ℕ) → a ≤ b → b ≤ c → c ≤ length l → between a b l ++ between b c l ≡ between a c l
between-join a b c l h k m =
    let e : b + (c - b) ≡ c = omega arith in
    let n : length (take b l) ≡ b = length-take-le b l (omega arith) in
    let t : take c l ≡ take b l ++ take (c - b) (drop b l) = rw e at (take-add b (c - b) l) in
    rw (between_is l a b, between_is l b c, between_is l a c, t, drop_at (take b l) (take (c - b) (drop b l)) b n)
    (sym (drop-append-le a (take b l) (take (c - b) (drop b l)) (omega arith)))
