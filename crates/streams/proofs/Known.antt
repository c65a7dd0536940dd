-- What reads and writes do to known bytes: starts of what is written, and reads one after another. Assumes nothing.
use Rattle.std.proofs.Common.{◌≡◌, ◌∙◌, ◌++◌, List, ℕ, Option, Result, Ok, Err, true, false, ◌<◌, ◌-◌, sym, ap, subst, length, take, drop, take_all, le_refl, append_assoc, append-nil, take-append-drop}
use Rattle.std.proofs.lemmas.List.{take_rest}
use lib.Seq.{take-append-le, take-append_seam}
use Rattle.std.specs.Io.KnownBytes.{Appends, Consumes, IsAtEnd, Keeps, ReadConsumes}
use Rattle.std.proofs.KnownBytes.{Appends-trans, Consumes-trans, starts_with_rest}
use Rattle.std.proofs.Transfers.{starts_with_length}
use Rattle.std.specs.Result.{IsErr}
use Rattle.std.proofs.lemmas.Result.{MatchResult-at_ok}
use Rattle.streams.specs.Streams.{AppendsStart}

-- all of it
pub start_of_all : (u v : Option (List ℕ)) (bs : List ℕ) → Appends u v bs → AppendsStart u v bs
start_of_all u v bs h = (bs, take_all (length bs) bs (le_refl _), h)

-- a start of a text is one of the text with more behind it
pub start_of_more : (u v : Option (List ℕ)) (a b : List ℕ) → AppendsStart u v a → AppendsStart u v (a ++ b)
start_of_more u v a b (w, s, h) = (w, take-append-le (length w) a b (starts_with_length a w s) ∙ s, h)

-- a start behind a text
pub start_behind : (u v w : Option (List ℕ)) (a b : List ℕ) → Appends u v a → AppendsStart v w b → AppendsStart u w (a ++ b)
start_behind u v w a b h (t, s, k) =
    let rest = drop (length t) b in
    let parts : a ++ b ≡ (a ++ t) ++ rest = ap (λ l. a ++ l) (starts_with_rest b t s) ∙ sym (append_assoc a t rest) in
    (a ++ t, ap (take (length (a ++ t))) parts ∙ take-append_seam (a ++ t) rest, Appends-trans u v w a t h k)

-- ---- bytes that are taken off the rest

pub taken_off : (all done rest : List ℕ) (n : ℕ) → all ≡ done ++ rest → all ≡ (done ++ take n rest) ++ drop n rest
taken_off all done rest n e = e ∙ ap (λ l. done ++ l) (sym (take-append-drop n rest)) ∙ sym (append_assoc done (take n rest) (drop n rest))

-- the same with the rest as a slice to its end
pub taken_off-rest : (all done rest : List ℕ) (n : ℕ) → all ≡ done ++ rest → all ≡ (done ++ take n rest) ++ take (length rest - n) (drop n rest)
taken_off-rest all done rest n e = taken_off all done rest n e ∙ ap (λ l. (done ++ take n rest) ++ l) (sym (take_rest rest n))

-- ---- reads

-- a read that gave bytes, and one that failed
pub read_at_ok :
    {E : Type 0} (u v : Option (List ℕ)) (r : Result ℕ E) (n : ℕ) (buf : List ℕ) → r ≡ Ok n → ReadConsumes u v r buf
    → Consumes u v (take n buf) × (n ≡ 0 → 0 < length buf → IsAtEnd v)
read_at_ok u v r n buf e h = MatchResult-at_ok _ _ n e h

pub read_at_err : {E : Type 0} (u v : Option (List ℕ)) (r : Result ℕ E) (buf : List ℕ) → IsErr r → ReadConsumes u v r buf → Keeps u v
read_at_err u v (Ok n) buf e h = let f : false ≡ true = e in absurd cc
read_at_err u v (Err x) buf e h = h

-- a read of no byte
pub none_more : (u v w : Option (List ℕ)) (bs buf : List ℕ) (n : ℕ) → n ≡ 0 → Consumes u v bs → Consumes v w (take n buf) → Consumes u w bs
none_more u v w bs buf n e c d = subst (Consumes u w) (ap (λ k. bs ++ take k buf) e ∙ append-nil bs) (Consumes-trans u v w bs (take n buf) c d)
