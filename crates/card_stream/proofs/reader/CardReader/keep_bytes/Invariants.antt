-- The loop's invariant: the bytes so far are kept, and print nothing.
use Rattle.std.proofs.Common.{◌≡◌, ◌≤◌, ◌-◌, [], length, take}
use Rattle.card_stream.specs.Reader.{chunk_next}
use Rattle.card_stream.specs.Feed.{feed_text}
use Rattle.card_stream.proofs.reader.CardReader.keep_bytes.Given as goal

abbrev pub invariant-loop-taken : goal.invariant-loop-taken
invariant-loop-taken l =
    let before = take l.taken l.input in
    record {
      bound : l.taken ≤ length l.input;
      kept : l.self ≡ chunk_next l.initial.self before;
      silent : feed_text l.initial.self before ≡ [];
      session : l.self.session ≡ l.initial.self.session;
    }

abbrev pub decreases-loop-taken : goal.decreases-loop-taken
decreases-loop-taken l = length l.input - l.taken
