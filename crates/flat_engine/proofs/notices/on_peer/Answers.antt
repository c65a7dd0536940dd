-- The row that was put back.
use Rattle.std.proofs.Common.{rules, ◌≡◌, ◌<◌, ◌∙◌, ap, sym, refl, length, map}
use Rattle.std.proofs.lemmas.List.{get_or-map}
use Rattle.lease.specs.Notices.{handled_at, on_peer}
use Rattle.lease.specs.Rows.{row_at, empty_row}
use Rattle.wire.specs.Flat.{flat_row}
use Rattle.wire.specs.FromFlat.{peer_of, manager_of}
use Rattle.flat_record.specs.Sound.{blank_row}
use Rattle.flat_engine.specs.FlatRows.{flat_at}
use Rattle.flat_engine.proofs.Laws.{row_put}
use Rattle.flat_engine.proofs.notices.on_peer.Goals as goal

pub returns-clause-record_after : goal.returns-clause-record_after
unfolding on_peer manager_of
returns-clause-record_after c =
    let f = c.args.f.now in
    let few : c.args.id < length f.peers = search rules in
    let at : peer_of (flat_at f.peers c.args.id) ≡ row_at (map peer_of f.peers) c.args.id = sym (get_or-map peer_of f.peers c.args.id blank_row empty_row few) in
    let r : c.handle_peer_notice-actions.new.row ≡ (handled_at (manager_of f) c.args.id c.args.notice).peer = simp (c.handle_peer_notice-actions.ensures.row_after, c.term_of-term.ensures, c.peer_of-row.ensures, at) refl in
    let p : c.flat_row.result ≡ flat_row (handled_at (manager_of f) c.args.id c.args.notice).peer = c.flat_row.ensures ∙ ap flat_row r in
    rw p (row_put f c.requires.fits.same c.args.id (handled_at (manager_of f) c.args.id c.args.notice).peer)
