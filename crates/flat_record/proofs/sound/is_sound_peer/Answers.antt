-- The tests, put into the order of the definitions.
use Rattle.std.proofs.Common.{◌≡◌, true, false, sym, ◌∙◌}
use Rattle.flat_record.specs.Sound.{sent_sound}
use Rattle.flat_record.proofs.RowTests.{sound}
use Rattle.flat_record.proofs.sound.is_sound_peer.Goals as goal

pub returns-then-sent : goal.returns-then-sent
returns-then-sent c =
    let e : sent_sound c.args.now c.args.p.now ≡ true = sym c.is_sound_sent-sent.ensures ∙ c.if-sent.true in
    rw c.is_sound_held.ensures (rw e at (sound c.args.now c.args.p.now))

pub returns-else-sent : goal.returns-else-sent
returns-else-sent c =
    let e : sent_sound c.args.now c.args.p.now ≡ false = sym c.is_sound_sent-sent.ensures ∙ c.if-sent.false in
    c.if-sent.false ∙ (rw e at (sound c.args.now c.args.p.now))
