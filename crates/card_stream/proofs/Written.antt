-- What is written so far, and at the end, of what the whole input prints. Assumes nothing.
use Rattle.std.specs.Prelude.{Result}
use Rattle.std.proofs.Common.{◌≡◌, ◌∙◌, ◌++◌, ◌≤◌, List, [], ◌∷◌, ℕ, Option, None, Some, IfSome, OnOk, refl, sym, ap, subst, append-nil, length, take, drop}
use borrow.Author.Tests.{le-leb}
use lib.Seq.{sets, take_at}
use Rattle.std.specs.Io.KnownBytes.{Appends, Consumes, IsAtEnd}
use Rattle.std.proofs.KnownBytes.{Appends-trans, Consumes-whole}
use Rattle.std.proofs.lemmas.Result.{on_ok_weaker}
use Rattle.streams.specs.Streams.{AppendsStart}
use Rattle.streams.proofs.Known.{start_of_more, start_behind}
use Rattle.card_text.specs.Lines.{line_bytes, laid}
use Rattle.card_stream.specs.declared.reader.CardReader.{CardReader}
use Rattle.card_stream.specs.Reader.{blank_reader, chunk_next, HasRead}
use Rattle.card_stream.specs.Feed.{feed_text, last_text, last_bytes, chunks_text, replay_text}
use Rattle.card_stream.proofs.Bytes.{last_laid}
use Rattle.card_stream.proofs.Printing.{chunks, whole}
use Rattle.card_stream.proofs.Reading as reader

-- ---- what a piece of a chunk prints

pub fed_put : (text out new : List ℕ) (n : ℕ) → n ≡ length text → new ≡ laid text out → take n new ≡ text
fed_put text out new n e f = rw (f, e) (take_at text (drop (length text) out) (length text) refl)

-- ---- what the end prints, where there is room for a line

pub end_put :
    (r : CardReader) (out new : List ℕ) (n : ℕ) → line_bytes ≤ length out → n ≡ length (last_bytes r (length out)) → new ≡ sets out 0 (last_bytes r (length out))
    → take n new ≡ last_text r
unfolding last_bytes
end_put r out new n h e f =
    let room : last_bytes r (length out) ≡ last_text r = rw (le-leb line_bytes (length out) h) refl in
    let text = last_text r in
    let same : new ≡ laid text out = rw (← room) f ∙ last_laid r out h in
    fed_put text out new n (e ∙ ap length room) same

-- ---- bytes more

-- what they leave
pub chunk_more : (r s t : CardReader) (a b : List ℕ) → s ≡ chunk_next r a → t ≡ chunk_next s b → t ≡ chunk_next r (a ++ b)
chunk_more r s t a b e f = f ∙ ap (λ x. chunk_next x b) e ∙ sym (reader.chunks r a b)

module _ (u v w : Option (List ℕ)) (r s : CardReader) (a b : List ℕ) (e : s ≡ chunk_next r a) (h : Appends u v (feed_text r a)) where
  more : feed_text r a ++ feed_text s b ≡ feed_text r (a ++ b)
  more = ap (λ x. feed_text r a ++ feed_text x b) e ∙ sym (chunks r a b)

  -- what they write
  pub written_more : Appends v w (feed_text s b) → Appends u w (feed_text r (a ++ b))
  written_more k = subst (Appends u w) more (Appends-trans u v w _ _ h k)

  -- and a start of it
  pub start_more : AppendsStart v w (feed_text s b) → AppendsStart u w (feed_text r (a ++ b))
  start_more k = subst (AppendsStart u w) more (start_behind u v w _ _ h k)

-- a start of what the first bytes of a chunk print is one of what all of it prints
pub start_of_chunk : (u w : Option (List ℕ)) (r : CardReader) (chunk a b : List ℕ) → chunk ≡ a ++ b → AppendsStart u w (feed_text r a) → AppendsStart u w (feed_text r chunk)
start_of_chunk u w r chunk a b e k = subst (AppendsStart u w) (sym (ap (feed_text r) e ∙ chunks r a b)) (start_of_more u w _ (feed_text (chunk_next r a) b) k)

-- ---- the whole input

-- what all of it prints is what it prints as one chunk, and then the end
in_one : (input : List ℕ) → feed_text blank_reader input ++ last_text (chunk_next blank_reader input) ≡ replay_text input
unfolding chunks_text
in_one input = whole (input ∷ []) ∙ ap replay_text (append-nil input)

-- at the end of a reader of which the input was read
module _
    (old new u v w : Option (List ℕ)) (s : CardReader) (input : List ℕ) (c : Consumes old new input) (d : IsAtEnd new) (h : HasRead s input)
    (k : Appends u v (feed_text blank_reader input))
  where
    all : feed_text blank_reader input ++ last_text s ≡ replay_text input
    all = ap (λ x. feed_text blank_reader input ++ last_text x) h ∙ in_one input

    pub written_at_end : {T E : Type 0} (result : Result T E) → OnOk result (Appends v w (last_text s)) → OnOk result (IfSome old (λ bytes. Appends u w (replay_text bytes)))
    written_at_end result =
        on_ok_weaker result (λ l. Consumes-whole old new input (λ bytes. Appends u w (replay_text bytes)) c d (subst (Appends u w) all (Appends-trans u v w _ _ k l)))

    pub start_at_end : AppendsStart v w (last_text s) → IfSome old (λ bytes. AppendsStart u w (replay_text bytes))
    start_at_end l = Consumes-whole old new input (λ bytes. AppendsStart u w (replay_text bytes)) c d (subst (AppendsStart u w) all (start_behind u v w _ _ k l))

-- what the bytes so far print is a start of what all of them print
start_of_whole : (u w : Option (List ℕ)) (input rest : List ℕ) → AppendsStart u w (feed_text blank_reader input) → AppendsStart u w (replay_text (input ++ rest))
start_of_whole u w input rest k =
    let all = input ++ rest in
    subst (AppendsStart u w) (in_one all) (start_of_more u w _ (last_text (chunk_next blank_reader all)) (start_of_chunk u w blank_reader all input rest refl k))

pub start_so_far :
    (old new u w : Option (List ℕ)) (input : List ℕ) → Consumes old new input → AppendsStart u w (feed_text blank_reader input)
    → IfSome old (λ bytes. AppendsStart u w (replay_text bytes))
start_so_far None new u w input c k = tt
start_so_far (Some xs) None u w input c k = absurd c
start_so_far (Some xs) (Some ys) u w input c k = subst (λ bytes. AppendsStart u w (replay_text bytes)) (sym c) (start_of_whole u w input ys k)
