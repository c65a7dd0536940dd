-- Rules 7.2 to 7.6, 8.1, 8.5, 9.1 and 9.2, on many peers: each as a rule on one row, and the pass over the ids that applies any of them.
use Rattle.std.specs.Prelude.{ℕ, Bool, true, false, cond, not, ◌&&◌, ◌||◌, List, eqb, Option, None, Some}
use Rattle.bitmap.specs.Sets.{count_where}
use Rattle.bitmap.specs.Bitmaps.{bitmap_where, is_one}
use Rattle.timer.specs.declared.Timer.{Timer}
use Rattle.bitmap.specs.declared.Bitmap.{Bitmap}
use Rattle.timer.specs.declared.Reading.{Reading}
use Rattle.timer.specs.declared.Timer.TheVariants.{Unarmed}
use Rattle.timer.specs.Timers.{is_exploded, expired_at, extended_by}
use Rattle.lease.specs.declared.Peer.{Peer}
use Rattle.lease.specs.declared.Visit.{Visit}
use Rattle.lease.specs.Pass.{Pass}
use Rattle.lease.specs.Pass as P
use Rattle.lease.specs.declared.Passed.{Passed}
use Rattle.lease.specs.Tables.{below}
use Rattle.lease.specs.Rows.{row_at, with_held, with_sent, granted, active_entry}

-- rule 7.4: no set means all
abbrev pub named : Option Bitmap → ℕ → Bool
named None i = true
named (Some b) i = is_one b i

-- the row in none of the pass's sets, and in the first if `is` says so
abbrev pub in_none : Peer → Visit
in_none row = record { peer = row; first = false; second = false }

abbrev pub in_first : Bool → Peer → Visit
in_first is row = record { peer = row; first = is; second = false }

-- ---- notices

-- rule 7.4: a named peer gets a fresh sent guard, unarmed, and is in the set, unless a promise was sent to it
abbrev pub new_grants_row : Bool → Peer → Visit
new_grants_row is-named row =
    cond (is-named && not (granted row.promise_sent))
    (in_first true (with_sent row (Some Unarmed) row.promise_sent row.refresh_mark))
    (in_none row)

-- rule 7.5: a named peer's sent guard goes, its sent promise is being revoked from now on; the set has those with a promise
abbrev pub revoked : Option (Timer × Bool) → Option (Timer × Bool)
revoked None = None
revoked (Some (t, revoking)) = Some (t, true)

abbrev pub do_revoke_row : Bool → Peer → Visit
do_revoke_row is-named row =
    cond is-named (in_first (granted row.promise_sent) (with_sent row None (revoked row.promise_sent) row.refresh_mark)) (in_none row)

-- rule 7.6: all that is held goes
abbrev pub clear_held_row : Peer → Visit
clear_held_row row = in_none (with_held row None None)

-- rule 7.2: under a higher number all four entries go, and the mark stays
abbrev pub higher_number_row : Peer → Visit
higher_number_row row = in_none (with_held (with_sent row None None row.refresh_mark) None None)

-- ---- advance: an armed timer whose deadline is reached explodes (rule 4.5)

abbrev pub expired_entry : Reading → Option Timer → Option Timer
expired_entry now None = None
expired_entry now (Some t) = Some (expired_at now t).timer

abbrev pub fires_entry : Reading → Option Timer → Bool
fires_entry now None = false
fires_entry now (Some t) = (expired_at now t).fired

abbrev pub expired_grant : Reading → Option (Timer × Bool) → Option (Timer × Bool)
expired_grant now None = None
expired_grant now (Some (t, revoking)) = Some ((expired_at now t).timer, revoking)

abbrev pub fires_grant : Reading → Option (Timer × Bool) → Bool
fires_grant now None = false
fires_grant now (Some (t, revoking)) = (expired_at now t).fired

-- rule 8.2: the first set has the peers whose sent timers fired, the second those whose held timers did
abbrev pub advance_row : Reading → Peer → Visit
advance_row now row =
    record {
      peer =
          record {
            guard_sent = expired_entry now row.guard_sent;
            promise_sent = expired_grant now row.promise_sent;
            guard_held = expired_entry now row.guard_held;
            promise_held = expired_entry now row.promise_held;
            refresh_mark = row.refresh_mark;
          };
      first = fires_entry now row.guard_sent || fires_grant now row.promise_sent;
      second = fires_entry now row.guard_held || fires_entry now row.promise_held;
    }

-- ---- the outer calls

-- rule 8.5: a named peer with a mark and a sent promise loses the mark; a promise that is neither exploded nor being revoked is extended by T
-- (`by` is T by the clock), and the peer is in the answer
abbrev pub refresh_on : Option (Timer × Bool) → Reading → ℕ → Bool → Peer → Visit
refresh_on None now by is-named row = in_none row
refresh_on (Some (t, revoking)) now by is-named row =
    cond (is-named && row.refresh_mark)
    (cond (revoking || is_exploded t)
    (in_none (with_sent row row.guard_sent (Some (t, revoking)) false))
    (in_first true (with_sent row row.guard_sent (Some (extended_by now by t, false)) false)))
    (in_none row)

abbrev pub refresh_row : Reading → ℕ → Bool → Peer → Visit
refresh_row now by is-named row = refresh_on row.promise_sent now by is-named row

-- rule 9.1: the peers with a promise sent, also one that is being revoked or exploded
abbrev pub granted_row : Peer → Visit
granted_row row = in_first (granted row.promise_sent) row

-- rule 9.2: the peers with an active held promise
abbrev pub leased_row : Reading → Peer → Visit
leased_row now row = in_first (active_entry now row.promise_held) row

-- ---- the pass over the ids

-- what a pass makes of the row of the peer i
abbrev pub pass_row : Pass → ℕ → Peer → Visit
pass_row (P.NewGrants set) i row = new_grants_row (named set i) row
pass_row (P.DoRevoke set) i row = do_revoke_row (named set i) row
pass_row P.ClearHeld i row = clear_held_row row
pass_row P.HigherNumber i row = higher_number_row row
pass_row (P.Advance now) i row = advance_row now row
pass_row (P.Refresh set now by) i row = refresh_row now by (named set i) row
pass_row P.Granted i row = granted_row row
pass_row P.Everyone i row = in_first true row
pass_row (P.Leased now) i row = leased_row now row

-- rule 5.3: the own id has no entries, and no pass takes it
abbrev pub visit_of : Pass → ℕ → ℕ → Peer → Visit
visit_of pass own i row = cond (eqb i own) (in_none row) (pass_row pass i row)

module _ (pass : Pass) (own : ℕ) where
  -- an id's row after the pass, and whether the id is in the first set and in the second
  abbrev pub row_after : ℕ → Peer → Peer
  row_after i row = (visit_of pass own i row).peer

  abbrev pub is_first : List Peer → ℕ → Bool
  is_first rows i = (visit_of pass own i (row_at rows i)).first

  abbrev pub is_second : List Peer → ℕ → Bool
  is_second rows i = (visit_of pass own i (row_at rows i)).second

  -- the pass over the ids: those below n are taken, the others stay
  unfoldable pub pass_over : ℕ → List Peer → Passed
  pass_over n rows =
      record {
        peers = below n row_after rows;
        first = bitmap_where n (is_first rows);
        second = bitmap_where n (is_second rows);
        count = count_where (is_first rows) n;
      }
