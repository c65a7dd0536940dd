-- The wrong managers against the log theorem: each has a short list of calls after which its answer is not the log's. Assumes nothing.
use Rattle.std.specs.Prelude.{None, Result, Ok, Err}
use mathlib.Core.Path.{◌≡◌, refl, ap, sym, ◌∙◌}
use mathlib.Core.List.{List, [], ◌∷◌}
use mathlib.Core.Bool.{true, false}
use Prim.Native.Nat.{ℕ}
use native.Mathlib.Omega.{arith}
use Rattle.lease.specs.Bitmaps.{bitmap_of, number}
use Rattle.lease.specs.Sets.{one}
use Rattle.lease.specs.Types.{Bitmap}
use Rattle.lease.specs.declared.Answered.{Answered}
use Rattle.lease.specs.declared.Refusal.{Refusal}
use Rattle.lease.specs.declared.Lines.{Lines}
use Rattle.lease.specs.declared.Manager.{Manager}
use Rattle.lease.specs.declared.LeaseMsg.TheVariants as M
use Rattle.lease.specs.declared.LeaseAction.TheVariants as A
use Rattle.lease.specs.declared.LeaseNotice.TheVariants as N
use Rattle.lease.specs.declared.Line.{Line}
use Rattle.lease.specs.declared.Lines.TheVariants as L
use Rattle.lease.specs.Rows.{present, row_at}
use Rattle.lease.specs.Rules.{notice_of}
use Rattle.lease.specs.Verdicts.{Call, notice, advance, quiet-start, refresh, drift, grant-set, lease-set, lease-cnt, time-left}
use Rattle.lease_log.specs.Program.{Chain, stop, step, Ruled}
use Rattle.lease.specs.Shorthands.{ms, no, under, start}
use Rattle.lease.proofs.Computing.{by_the_rules}
use Rattle.lease_log.specs.WrongManagers.{NoticesBy, Obeying, ObeyingMeets, UntouchedFails, RepliesFalseFails, RepliesFalseBreaks, FakesLaterFails, InventsCountFails}
use Rattle.lease_log.proofs.Program.{log-theorem-of-ruled}

-- ---- one that obeys

ruled-call : (m : Manager) (c : Call) (m' : Manager) → NoticesBy Obeying m c m' → Ruled m c m'
ruled-call m (notice num x) m' e = e
ruled-call m (advance to) m' e = e
ruled-call m quiet-start m' e = e
ruled-call m (refresh set) m' e = e
ruled-call m (drift x) m' e = e
ruled-call m grant-set m' e = e
ruled-call m lease-set m' e = e
ruled-call m lease-cnt m' e = e
ruled-call m (time-left p) m' e = e

ruled-chain : {m m' : Manager} {cs : List Call} → Chain (NoticesBy Obeying) m cs m' → Chain Ruled m cs m'
ruled-chain stop = stop
ruled-chain (step {m} {m₁} {m₂} {c} {cs} s rest) = step (ruled-call m c m₁ s) (ruled-chain rest)

pub obeying-meets : ObeyingMeets
unfolding by_the_rules
obeying-meets calls f m chain = log-theorem-of-ruled 0 3 1000000000 0 (ms 0) refl calls f m (ruled-chain chain)

-- ---- the others

-- the number of an answered set, and an answered count
abbrev bits_of : Result Bitmap Refusal → ℕ
bits_of (Err k) = 0
bits_of (Ok b) = number b

abbrev count_in : Result ℕ Refusal → ℕ
count_in (Err k) = 0
count_in (Ok n) = n

abbrev empty : Result Bitmap Refusal
empty = Ok (bitmap_of 3 0)

-- a grant: NewGrants, then GuardReply from 1; the log has 1 in the grant set
abbrev grant : List Call
grant = notice (no 0) (N.NewGrants None None) ∷ notice (no 0) (N.RecvLeaseMsg 1 M.GuardReply) ∷ []

pub untouched-fails : UntouchedFails
unfolding by_the_rules
untouched-fails d =
    let a = d grant (tt, (tt, tt)) start (step refl (step refl stop)) empty empty (Ok 1) refl refl refl in
    let wrong : ◌≡◌ {A = ℕ} 0 2 = ap bits_of a.grants in
    omega arith

-- a lease: Guard, then Promise from 2; the log has 2 in the lease set
abbrev lease : List Call
lease = notice (no 0) (N.RecvLeaseMsg 2 (M.Guard None)) ∷ notice (no 0) (N.RecvLeaseMsg 2 M.Promise) ∷ []

abbrev false-reply : Answered Lines
false-reply = record { outcome = Ok (L.One (under 0 (A.SendLeaseMsg 2 (M.PromiseReply false)))); manager = start }

pub replies-false-fails : RepliesFalseFails
unfolding by_the_rules
replies-false-fails d =
    let a = d lease (tt, (tt, tt)) start (step (false-reply, (refl, refl)) (step (false-reply, (refl, refl)) stop)) empty empty (Ok 1) refl refl refl in
    let wrong : ◌≡◌ {A = ℕ} 0 4 = ap bits_of a.leases in
    omega arith

differ : ◌≡◌ {A = Result Lines Refusal} (Ok (L.One (under 0 (A.SendLeaseMsg 2 (M.PromiseReply false))))) (Ok (L.One (under 0 (A.SendLeaseMsg 2 (M.PromiseReply true))))) → ⊥
differ q =
    let x : under 0 (A.SendLeaseMsg 2 (M.PromiseReply false)) ≡ under 0 (A.SendLeaseMsg 2 (M.PromiseReply true)) = cc in
    let y : A.SendLeaseMsg 2 (M.PromiseReply false) ≡ A.SendLeaseMsg 2 (M.PromiseReply true) = ap (λ (z : Line). z.1) x in
    let wrong : ◌≡◌ {A = ℕ} 0 1 = cc in omega arith

pub replies-false-breaks : RepliesFalseBreaks
unfolding by_the_rules
replies-false-breaks r h e = differ (sym h ∙ ap (λ (z : Answered Lines). z.outcome) e)

-- the first notice of a grant, obeyed: 1 has a guard sent, and had none
abbrev after_first : Manager
after_first = (notice_of start (no 0) (N.NewGrants None None)).manager

abbrev guards_to_1 : Manager → ℕ
guards_to_1 m = one (present (row_at m.peers 1).guard_sent)

not-start : after_first ≡ start → ⊥
unfolding by_the_rules
not-start e = let wrong : ◌≡◌ {A = ℕ} 1 0 = ap guards_to_1 e in omega arith

pub fakes-later-fails : FakesLaterFails
unfolding by_the_rules
fakes-later-fails d =
    let a = d grant (tt, (tt, tt)) after_first (step (λ e. refl, λ f. absurd (f refl)) (step (λ e. absurd (not-start e), λ f. refl) stop)) empty empty (Ok 1) refl refl refl in
    let wrong : ◌≡◌ {A = ℕ} 0 2 = ap bits_of a.grants in
    omega arith

pub invents-count-fails : InventsCountFails
unfolding by_the_rules
invents-count-fails d =
    let a = d [] tt start stop empty empty (Ok 2) refl refl refl in
    let wrong : ◌≡◌ {A = ℕ} 2 1 = ap count_in a.count in
    omega arith
