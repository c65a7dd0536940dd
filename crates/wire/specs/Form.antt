-- Which flat records are some manager's: each tag and flag has one of its values, and what they leave out is 0 (rule 13.1). Definitions only.
use Rattle.std.specs.Prelude.{ℕ, Bool, true, false, cond, ◌&&◌, eqb, ltb, Float}
use Rattle.std.specs.List.{list_all}
use Rattle.std.specs.Float.Ieee.{eq}
use Rattle.wire.specs.declared.flat.PeerC.{PeerC}
use Rattle.wire.specs.declared.flat.ManagerC.{ManagerC}
use Rattle.wire.specs.Flat.{true_quotient}

-- A tag of 0 to 3, and a deadline only where the timer is armed.
abbrev pub is_entry : ℕ → ℕ → Bool
is_entry tag at = cond (eqb tag 2) true (cond (ltb tag 4) (eqb at 0) false)

-- A flag is 0 or 1.
abbrev pub is_flag : ℕ → Bool
is_flag n = ltb n 2

-- No promise is being revoked that is not there.
abbrev pub is_revoking_flag : ℕ → ℕ → Bool
is_revoking_flag tag revoking = cond (eqb tag 0) (eqb revoking 0) (is_flag revoking)

abbrev pub is_grant : ℕ → ℕ → ℕ → Bool
is_grant tag at revoking = is_revoking_flag tag revoking && is_entry tag at

unfoldable pub is_row : PeerC → Bool
is_row p =
    ((is_entry p.guard_sent p.guard_sent_at && is_grant p.promise_sent p.promise_sent_at p.revoking)
    && (is_entry p.guard_held p.guard_held_at && is_entry p.promise_held p.promise_held_at))
    && is_flag p.refresh_mark

abbrev pub is_clock_pair : ℕ → Float → Bool
is_clock_pair drifting q = cond (eqb drifting 0) (eq q true_quotient) (is_flag drifting)

abbrev pub is_quiet_pair : ℕ → ℕ → Bool
is_quiet_pair quiet at = cond (eqb quiet 0) (eqb at 0) (is_flag quiet)

unfoldable pub is_record : ManagerC → Bool
is_record f = (is_clock_pair f.drifting f.quotient && is_quiet_pair f.quiet f.quiet_until) && list_all is_row f.peers
