-- What is taken next goes behind what was, and its lines behind those that are written; where the loop ends nothing more is taken.
use Rattle.std.proofs.Common.{◌≡◌, ◌+◌, ◌-◌, ◌∙◌, ◌++◌, refl, sym, ap, arith, length, length-append, length-drop, length-take-le, take, drop, List, ℕ}
use native.Mathlib.Nat.{zero-add}
use Rattle.card_text.proofs.Fields.{rest_at}
use lib.Seq.{drop-drop}
use Rattle.card_text.specs.Lines.{laid}
use Rattle.card_text.proofs.LineText.{laid_behind}
use Rattle.card_stream.specs.declared.reader.CardReader.{CardReader}
use Rattle.card_stream.specs.Reader.{chunk_next}
use Rattle.card_stream.specs.Feed.{feed_text, bytes_taken}
use Rattle.card_stream.proofs.Reading as reading
use Rattle.card_stream.proofs.Printing.{fed-more}
use Rattle.card_stream.proofs.Bytes.{more, takes_some, takes_none, takes_all}
use Rattle.card_stream.proofs.feed.feed.Goals as goal

pub loop-taken-init : goal.loop-taken-init
unfolding chunk_next feed_text
loop-taken-init c =
    let room = length c.args.out.now in
    let all : room - 0 ≡ room = omega arith in
    record { known = c.known_of-known.ensures; bound = omega arith; room = omega arith; reader = refl; written = refl; out = refl; taken = rw all (zero-add (bytes_taken c.args.reader.now c.args.input.now room)) }

pub loop-taken-preserved : goal.loop-taken-preserved
loop-taken-preserved c =
    let l = c.loop-taken in
    let i = l.invariant in
    let r = c.args.reader.now in
    let s = c.args.input.now in
    let room = length c.args.out.now in
    let k = c.feed_next-next.result.taken in
    let w = c.feed_next-next.result.written in
    let behind = take k (drop l.taken s) in
    let f = rw (rest_at s l.taken) at c.feed_next-next.ensures in
    let next : feed_text r (take (l.taken + k) s) ≡ feed_text r (take l.taken s) ++ feed_text l.reader behind =
    more r s l.taken k ∙ ap (λ (x : CardReader). feed_text r (take l.taken s) ++ feed_text x behind) (sym i.reader) in
    let part : length (take (length l.out - l.written) (drop l.written l.out)) ≡ room - l.written = omega (arith, length-take-le (length l.out - l.written) (drop l.written l.out) (omega (arith, length-drop l.written l.out))) in
    let less : room - l.written - w ≡ room - (l.written + w) = omega arith in
    let rest : bytes_taken l.reader (drop l.taken s) (room - l.written) ≡ k + bytes_taken c.feed_next-next.new.reader (drop (l.taken + k) s) (room - (l.written + w)) =
    rw (drop-drop k l.taken s, part, less) at f.rest in
    record {
      known = c.feed_next-next.ensures.stays;
      bound = omega (arith, f.taken.1, length-drop l.taken s);
      room = omega (arith, c.feed_next-next.auto.out, f.upper_bound);
      reader = f.reader_after ∙ ap (λ (x : CardReader). chunk_next x behind) i.reader ∙ reading.more r s l.taken k;
      written = omega (arith, i.written, f.written, ap length next, length-append (feed_text r (take l.taken s)) (feed_text l.reader behind));
      out =
          laid_behind (feed_text r (take l.taken s)) (feed_text l.reader behind) c.args.out.now l.out c.feed_next-next.new.out l.written i.written i.out f.out_after
          ∙ ap (λ (t : List ℕ). laid t c.args.out.now) (sym next);
      taken = omega (arith, i.taken, rest);
    }

pub returns-else-out-written-ge-MOST-clause-taken : goal.returns-else-out-written-ge-MOST-clause-taken
returns-else-out-written-ge-MOST-clause-taken c =
    let l = c.loop-taken in
    omega (arith, l.invariant.taken, takes_none l.reader (drop l.taken c.args.input.now) (length c.args.out.now - l.written) (omega arith))

pub returns-else-out-written-ge-MOST-clause-so_far : goal.returns-else-out-written-ge-MOST-clause-so_far
returns-else-out-written-ge-MOST-clause-so_far c = λ before h.
    let l = c.loop-taken in
    fed-more c.args.reader.now l.reader before (take l.taken c.args.input.now) c.args.out.now l.out l.written h l.invariant.reader l.invariant.written l.invariant.out

pub returns-else-out-written-ge-MOST-clause-goes_on : goal.returns-else-out-written-ge-MOST-clause-goes_on
returns-else-out-written-ge-MOST-clause-goes_on c = λ room some.
    omega (arith, returns-else-out-written-ge-MOST-clause-taken c, takes_some c.args.reader.now c.args.input.now (length c.args.out.now) room some)

pub returns-after-loop-taken-clause-taken : goal.returns-after-loop-taken-clause-taken
returns-after-loop-taken-clause-taken c =
    let l = c.loop-taken in
    omega (arith, l.invariant.taken, takes_all l.reader c.args.input.now l.taken (length c.args.out.now - l.written) (omega arith))

pub returns-after-loop-taken-clause-so_far : goal.returns-after-loop-taken-clause-so_far
returns-after-loop-taken-clause-so_far c = λ before h.
    let l = c.loop-taken in
    fed-more c.args.reader.now l.reader before (take l.taken c.args.input.now) c.args.out.now l.out l.written h l.invariant.reader l.invariant.written l.invariant.out
