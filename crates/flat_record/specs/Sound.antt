-- What the one look at a flat record asks of each row: that it is of the form, and valid at its id. Definitions only.
use Rattle.std.specs.Prelude.{ℕ, Bool, not, ◌&&◌, ◌||◌}
use Rattle.lease.specs.Types.{Reading}
use Rattle.lease.specs.RecordCheck.{sent_guard_valid, entry_valid, grant_valid, row_valid_at}
use Rattle.lease.specs.Rows.{present, granted}
use Rattle.wire.specs.declared.flat.PeerC.{PeerC}
use Rattle.wire.specs.declared.flat.ManagerC.{ManagerC}
use Rattle.wire.specs.Form.{is_entry, is_grant, is_row}
use Rattle.wire.specs.FromFlat.{entry_by_tag, grant_by_tag, peer_of}

abbrev pub reading : ℕ → Reading
reading now = record { 0 = now }

-- The row whose ten numbers are all 0.
abbrev pub blank_row : PeerC
blank_row =
    record {
      guard_sent = 0;
      promise_sent = 0;
      guard_held = 0;
      promise_held = 0;
      revoking = 0;
      refresh_mark = 0;
      guard_sent_at = 0;
      promise_sent_at = 0;
      guard_held_at = 0;
      promise_held_at = 0;
    }

-- The sent tables of a row are of the form, and the row is in none of them; and so the held ones.
abbrev pub sent_blank : PeerC → Bool
sent_blank p =
    (is_entry p.guard_sent p.guard_sent_at && not (present (entry_by_tag p.guard_sent p.guard_sent_at)))
    && (is_grant p.promise_sent p.promise_sent_at p.revoking && not (granted (grant_by_tag p.promise_sent p.promise_sent_at p.revoking)))

abbrev pub held_blank : PeerC → Bool
held_blank p =
    (is_entry p.guard_held p.guard_held_at && not (present (entry_by_tag p.guard_held p.guard_held_at)))
    && (is_entry p.promise_held p.promise_held_at && not (present (entry_by_tag p.promise_held p.promise_held_at)))

-- The sent tables of a peer's row are of the form and valid, and the peer is in at most one of them.
abbrev pub sent_sound : ℕ → PeerC → Bool
sent_sound now p =
    (is_entry p.guard_sent p.guard_sent_at && is_grant p.promise_sent p.promise_sent_at p.revoking)
    && ((sent_guard_valid (entry_by_tag p.guard_sent p.guard_sent_at) && grant_valid (reading now) (grant_by_tag p.promise_sent p.promise_sent_at p.revoking))
    && (not (present (entry_by_tag p.guard_sent p.guard_sent_at)) || not (granted (grant_by_tag p.promise_sent p.promise_sent_at p.revoking))))

-- And so the held ones.
abbrev pub held_sound : ℕ → PeerC → Bool
held_sound now p =
    (is_entry p.guard_held p.guard_held_at && is_entry p.promise_held p.promise_held_at)
    && ((entry_valid (reading now) (entry_by_tag p.guard_held p.guard_held_at) && entry_valid (reading now) (entry_by_tag p.promise_held p.promise_held_at))
    && (not (present (entry_by_tag p.guard_held p.guard_held_at)) || not (present (entry_by_tag p.promise_held p.promise_held_at))))

abbrev pub sound_at : ManagerC → ℕ → PeerC → Bool
sound_at f i p = is_row p && row_valid_at f.me f.population (reading f.now) i (peer_of p)
