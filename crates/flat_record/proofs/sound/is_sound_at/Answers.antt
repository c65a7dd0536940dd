-- A blank row, a peer's row, and any other.
use Rattle.std.proofs.Common.{◌≡◌, ◌&&◌, true, false, sym, ◌∙◌}
use Rattle.lease.specs.RecordCheck.{row_empty}
use Rattle.wire.specs.Form.{is_row}
use Rattle.wire.specs.FromFlat.{peer_of}
use Rattle.flat_record.proofs.RowTests.{sound-at}
use Rattle.flat_record.proofs.sound.is_sound_at.Goals as goal

pub returns-then-is_blank : goal.returns-then-is_blank
returns-then-is_blank c =
    let e : (is_row c.args.p.now && row_empty (peer_of c.args.p.now)) ≡ true = sym c.is_blank.ensures ∙ c.if-is_blank.true in
    c.if-is_blank.true ∙ (rw e at (sound-at c.args.f.now c.args.i c.args.p.now))

pub returns-then-of_peer : goal.returns-then-of_peer
returns-then-of_peer c =
    let e : (is_row c.args.p.now && row_empty (peer_of c.args.p.now)) ≡ false = sym c.is_blank.ensures ∙ c.if-is_blank.false in
    c.is_sound_peer.ensures ∙ (rw (e, c.if-of_peer.true) at (sound-at c.args.f.now c.args.i c.args.p.now))

pub returns-else-of_peer : goal.returns-else-of_peer
returns-else-of_peer c =
    let e : (is_row c.args.p.now && row_empty (peer_of c.args.p.now)) ≡ false = sym c.is_blank.ensures ∙ c.if-is_blank.false in
    c.if-of_peer.false ∙ (rw (e, c.if-of_peer.false) at (sound-at c.args.f.now c.args.i c.args.p.now))
