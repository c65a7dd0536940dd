-- What is taken next goes behind what was; and what was read before, and the chunk.
use Rattle.std.proofs.Common.{◌≡◌, ◌∙◌, refl, ap, arith, length, length-drop, take, drop, ◌≤◌}
use Rattle.std.proofs.lemmas.List.{take_all}
use Rattle.card_text.proofs.Fields.{rest_at}
use Rattle.card_stream.specs.declared.reader.CardReader.{CardReader}
use Rattle.card_stream.specs.Reader.{chunk_next}
use Rattle.card_stream.proofs.Reading.{more, has-read}
use Rattle.card_stream.proofs.reader.CardReader.take_chunk.Goals as goal

pub loop-taken-init : goal.loop-taken-init
unfolding chunk_next
loop-taken-init c = record { known = c.known_of-known.ensures; bound = omega arith; read = refl }

pub loop-taken-preserved : goal.loop-taken-preserved
loop-taken-preserved c =
    let l = c.loop-taken in
    let f = c.take_next-taken.ensures in
    let s = c.args.input.now in
    let k = c.take_next-taken.result in
    let bound : k ≤ length (drop l.taken s) = rw (rest_at s l.taken) at f.bounds.1 in
    let read : c.take_next-taken.new.self ≡ chunk_next l.self (take k (drop l.taken s)) = rw (rest_at s l.taken) at f.self_after in
    record { known = f.stays; bound = omega (arith, length-drop l.taken s); read = read ∙ ap (λ (r : CardReader). chunk_next r (take k (drop l.taken s))) l.invariant.read ∙ more c.args.self.now s l.taken k }

pub returns-clause-has_read : goal.returns-clause-has_read
returns-clause-has_read c = λ before h.
    let r = c.args.self.now in
    let all = take_all c.loop-taken.taken c.args.input.now c.loop-taken-test.false in
    has-read r c.loop-taken.self before c.args.input.now (c.loop-taken.invariant.read ∙ ap (chunk_next r) all) h
