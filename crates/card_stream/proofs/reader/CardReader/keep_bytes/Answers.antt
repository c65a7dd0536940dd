-- A byte more; and the first byte is no newline, so that one is kept.
use Rattle.std.proofs.Common.{◌∙◌, refl, ap, arith}
use Rattle.card_stream.specs.declared.partial.Partial.{Partial}
use Rattle.card_stream.specs.declared.session.Session.{Session}
use Rattle.card_stream.specs.declared.reader.CardReader.{CardReader}
use Rattle.card_stream.specs.Reader.{chunk_next}
use Rattle.card_stream.specs.Feed.{feed_text}
use Rattle.card_stream.proofs.Bytes.{silent_more}
use Rattle.card_stream.proofs.reader.CardReader.keep_bytes.Goals as goal

pub loop-taken-init : goal.loop-taken-init
unfolding chunk_next feed_text
loop-taken-init c = record { bound = omega arith; kept = refl; silent = refl; session = refl }

-- a reader of that line so far
abbrev holder : Session → Partial → CardReader
holder s p = record { partial = p; session = s }

pub loop-taken-preserved : goal.loop-taken-preserved
loop-taken-preserved c =
    let l = c.loop-taken in
    let i = l.invariant in
    let more = silent_more c.args.self.now l.self c.args.input.now l.taken c.loop-taken-test.true c.if-input-taken-ne-NEWLINE.true i.kept i.silent in
    record {
      bound = omega arith;
      kept = ap (holder l.self.session) c.push.ensures ∙ more.0;
      silent = more.1;
      session = i.session;
    }
