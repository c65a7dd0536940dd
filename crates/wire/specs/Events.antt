-- Event cards as six numbers (rules 14.1, 14.2): which numbers are one, what event they say, what card an event is written as, and which events
-- a card can carry. Definitions only.
use Rattle.std.specs.Prelude.{ℕ, ◌+◌, ◌/◌, ◌^◌, Bool, true, false, cond, eqb, leb, Option, None, Some}
use Rattle.lease.specs.Bitmaps as bitmaps
use Rattle.lease.specs.Types.{Bitmap}
use Rattle.lease.specs.declared.Bar.{Bar}
use Rattle.lease.specs.declared.LeaseMsg.{LeaseMsg}
use Rattle.lease.specs.declared.LeaseMsg.TheVariants as M
use Rattle.lease.specs.declared.LeaseNotice.{LeaseNotice}
use Rattle.lease.specs.declared.LeaseNotice.TheVariants as N
use Rattle.wire.specs.Flat.{flag}
use Rattle.wire.specs.Form.{is_flag}
use Rattle.wire.specs.declared.calls.CallC.{CallC}
use Rattle.wire.specs.Cards.{lease_notice_of}
use Rattle.wire.specs.declared.events.Event.{Event}
use Rattle.wire.specs.declared.events.Event.TheVariants as E

-- A card of that code: its number, peer, size, first and second.
abbrev pub card : ℕ → ℕ → ℕ → ℕ → ℕ → ℕ → CallC
card code num peer size first second = record { code = code; number = num; peer = peer; size = size; first = first; second = second }

-- ---- which numbers are a card. Refused with 22 (rule 14.3): unknown code or kind, an unused field not 0, a flag over 1, a set size over the
-- capacity or a one at or above it

-- Unused fields are 0.
abbrev pub are_zeros : ℕ → ℕ → Bool
are_zeros a b = cond (eqb a 0) (eqb b 0) false

-- A set of a size up to 64: no one at or above it. Size 0 is no set, and first is then unused.
unfoldable pub is_set_card : ℕ → ℕ → Bool
is_set_card size first = cond (leb size bitmaps.capacity) (eqb (first / 2 ^ size) 0) false

-- A message, by the kind in size: first is the bar of kind 2, a flag of kinds 5 and 7, else unused.
unfoldable pub is_msg_card : ℕ → ℕ → Bool
is_msg_card kind first =
    cond (eqb kind 1) (eqb first 0)
    (cond (eqb kind 2) true
    (cond (eqb kind 3) (eqb first 0)
    (cond (eqb kind 4) (eqb first 0)
    (cond (eqb kind 5) (is_flag first) (cond (eqb kind 6) (eqb first 0) (cond (eqb kind 7) (is_flag first) false))))))

-- NewGrants: a set, and peer 1 where second is a bar, else both 0.
unfoldable pub is_new_grants_card : CallC → Bool
is_new_grants_card c = cond (is_set_card c.size c.first) (cond (eqb c.peer 0) (eqb c.second 0) (eqb c.peer 1)) false

unfoldable pub is_do_revoke_card : CallC → Bool
is_do_revoke_card c = cond (is_set_card c.size c.first) (are_zeros c.peer c.second) false

-- 5 ClearHeld; 6 message; 7 GrantTimeout; 8 LeaseTimeout.
unfoldable pub is_notice_card : CallC → Bool
is_notice_card c =
    cond (eqb c.code 5) (cond (are_zeros c.peer c.size) (are_zeros c.first c.second) false)
    (cond (eqb c.code 6) (cond (eqb c.second 0) (is_msg_card c.size c.first) false)
    (cond (eqb c.code 7) (cond (eqb c.size 0) (are_zeros c.first c.second) false)
    (cond (eqb c.code 8) (cond (eqb c.size 0) (are_zeros c.first c.second) false) false)))

-- 1 set-up, which uses every field; 2 advance; 3 NewGrants; 4 DoRevoke; the other notices.
unfoldable pub is_card : CallC → Bool
is_card c =
    cond (eqb c.code 1) true
    (cond (eqb c.code 2) (cond (are_zeros c.peer c.size) (are_zeros c.first c.second) false)
    (cond (eqb c.code 3) (is_new_grants_card c) (cond (eqb c.code 4) (is_do_revoke_card c) (is_notice_card c))))

-- ---- what they say

-- Set-up: number is the start reading, peer the own id, size the population, first T in ns, second the heartbeat in ns. Advance: number
-- is the reading. A notice's number is its lease number.
unfoldable pub event_of : CallC → Event
event_of c =
    cond (eqb c.code 1)
    (E.SetUp (record { me = c.peer; population = c.size; expire_timeout = c.first; heartbeat = c.second; now = record { 0 = c.number } }))
    (cond (eqb c.code 2) (E.Advance (record { 0 = c.number })) (E.Notice (record { 0 = c.number }) (lease_notice_of c)))

-- ---- the card of an event

abbrev pub set_size : Option Bitmap → ℕ
set_size None = 0
set_size (Some b) = b.size

-- Id i as 2 to the i.
abbrev pub set_bits : Option Bitmap → ℕ
set_bits None = 0
set_bits (Some b) = bitmaps.number b

abbrev pub bar_flag : Option Bar → ℕ
bar_flag None = 0
bar_flag (Some bar) = 1

abbrev pub bar_of : Option Bar → ℕ
bar_of None = 0
bar_of (Some bar) = bar.0

-- 1 Guard, 2 Guard with bar, 3 GuardReply, 4 Promise, 5 PromiseReply, 6 Revoke, 7 RevokeReply.
abbrev pub msg_kind : LeaseMsg → ℕ
msg_kind (M.Guard bar) = 1 + bar_flag bar
msg_kind M.GuardReply = 3
msg_kind M.Promise = 4
msg_kind (M.PromiseReply held) = 5
msg_kind M.Revoke = 6
msg_kind (M.RevokeReply held) = 7

abbrev pub msg_first : LeaseMsg → ℕ
msg_first (M.Guard bar) = bar_of bar
msg_first M.GuardReply = 0
msg_first M.Promise = 0
msg_first (M.PromiseReply held) = flag held
msg_first M.Revoke = 0
msg_first (M.RevokeReply held) = flag held

unfoldable pub notice_card : ℕ → LeaseNotice → CallC
notice_card num (N.NewGrants set bar) = card 3 num (bar_flag bar) (set_size set) (set_bits set) (bar_of bar)
notice_card num (N.DoRevoke set) = card 4 num 0 (set_size set) (set_bits set) 0
notice_card num N.ClearHeld = card 5 num 0 0 0 0
notice_card num (N.RecvLeaseMsg id msg) = card 6 num id (msg_kind msg) (msg_first msg) 0
notice_card num (N.GrantTimeout id) = card 7 num id 0 0 0
notice_card num (N.LeaseTimeout id) = card 8 num id 0 0 0

unfoldable pub card_of : Event → CallC
card_of (E.SetUp u) = card 1 u.now.0 u.me u.population u.expire_timeout u.heartbeat
card_of (E.Advance to) = card 2 to.0 0 0 0 0
card_of (E.Notice num notice) = notice_card num.0 notice

-- ---- which events a card can carry

-- No set, or one of size 1 to 64 with no one at or above it.
unfoldable pub carried_set : Option Bitmap → Bool
carried_set None = true
carried_set (Some b) = cond (eqb b.size 0) false (is_set_card b.size (bitmaps.number b))

unfoldable pub carried_notice : LeaseNotice → Bool
carried_notice (N.NewGrants set bar) = carried_set set
carried_notice (N.DoRevoke set) = carried_set set
carried_notice N.ClearHeld = true
carried_notice (N.RecvLeaseMsg id msg) = true
carried_notice (N.GrantTimeout id) = true
carried_notice (N.LeaseTimeout id) = true

unfoldable pub carried_event : Event → Bool
carried_event (E.SetUp u) = true
carried_event (E.Advance to) = true
carried_event (E.Notice num notice) = carried_notice notice

-- Ids and a population of at most four digits.
abbrev pub has_room : CallC → Bool
has_room c = cond (leb c.peer 9999) (leb c.size 9999) false

unfoldable pub is_carried : Event → Bool
is_carried e = cond (carried_event e) (has_room (card_of e)) false
