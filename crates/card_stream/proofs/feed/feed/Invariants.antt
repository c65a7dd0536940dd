-- The loop's invariant: what the bytes so far leave and print, and how many are taken with those that have room behind them.
use Rattle.std.proofs.Common.{◌≡◌, ◌≤◌, ◌+◌, ◌-◌, length, take, drop}
use Rattle.card_text.specs.Lines.{laid}
use Rattle.card_stream.specs.Reader.{chunk_next}
use Rattle.card_stream.specs.Sessions.{Knows}
use Rattle.card_stream.specs.Feed.{feed_text, bytes_taken}
use Rattle.card_stream.proofs.feed.feed.Given as goal

abbrev pub invariant-loop-taken : goal.invariant-loop-taken
invariant-loop-taken l =
    let before = take l.taken l.input in
    record {
      known : Knows l.known l.reader.session;
      bound : l.taken ≤ length l.input;
      room : l.written ≤ length l.out;
      reader : l.reader ≡ chunk_next l.initial.reader before;
      written : l.written ≡ length (feed_text l.initial.reader before);
      out : l.out ≡ laid (feed_text l.initial.reader before) l.initial.out;
      taken : l.taken + bytes_taken l.reader (drop l.taken l.input) (length l.initial.out - l.written) ≡ bytes_taken l.initial.reader l.input (length l.initial.out);
    }

abbrev pub decreases-loop-taken : goal.decreases-loop-taken
decreases-loop-taken l = length l.input - l.taken
