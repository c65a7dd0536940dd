-- What a list of cards says to the rules, what it answers and where it leads (rules 11.5, 13.6). Definitions only.
use Rattle.std.specs.Prelude.{◌≡◌, cond, List, [], ◌∷◌, ◌++◌, ℕ, ◌+◌, eqb, ltb, Bool, false, Ok, is_ok}
use Rattle.lease.specs.declared.Answered.{Answered}
use Rattle.lease.specs.Sets.{one}
use Rattle.lease.specs.SetUp.{setup_of}
use Rattle.lease.specs.Verdicts.{Call, notice, advance, quiet-start, refresh, drift, grant-set, lease-set, lease-cnt, time-left}
use Rattle.lease_log.specs.Log.{Run, Journal, promise_lines}
use Rattle.lease_log.specs.LogTheorem.{Balanced, grants_by, leases_by, lease_count_by, run_of}
use Rattle.wire.specs.declared.flat.ManagerC.{ManagerC}
use Rattle.wire.specs.declared.lines.LineC.{LineC}
use Rattle.wire.specs.declared.answers.AnswerC.{AnswerC}
use Rattle.wire.specs.Answers.{set_answer, count_answer}
use Rattle.wire.specs.declared.calls.CallC.{CallC}
use Rattle.wire.specs.Cards.{is_call, lease_notice_of, peer_set_of, drift_setting_of}
use Rattle.biasflint.specs.Calls.{call_of}

-- ---- the cards on a lent record

-- The record that a list of cards leads to.
abbrev pub after_cards : ManagerC → List CallC → ManagerC
after_cards f [] = f
after_cards f (c ∷ cs) = after_cards (call_of f c).manager cs

-- Whether a line is a Promise line, code 4.
abbrev pub is_promise_line : LineC → Bool
is_promise_line line = eqb line.code 4

-- The Promise lines of an answer, and of the answers to a list of cards.
abbrev pub promises_in : AnswerC → ℕ
promises_in a = one (is_promise_line a.one) + (one (is_promise_line a.two) + one (is_promise_line a.three))

abbrev pub promises_from : ManagerC → List CallC → ℕ
promises_from f [] = 0
promises_from f (c ∷ cs) = promises_in (call_of f c).answer + promises_from (call_of f c).manager cs

-- ---- the calls that cards stand for

-- Which of the rules' calls a card is, by its code, 2 to 15; 3 to 8 are the notices. Meant for cards that are calls and no set-up.
abbrev pub rule_call : CallC → Call
rule_call c =
    cond (eqb c.code 2) (advance (record { 0 = c.number }))
    (cond (ltb c.code 9) (notice (record { 0 = c.number }) (lease_notice_of c))
    (cond (eqb c.code 9) quiet-start
    (cond (eqb c.code 10) (refresh (peer_set_of c))
    (cond (eqb c.code 11) (drift (drift_setting_of c))
    (cond (eqb c.code 12) grant-set (cond (eqb c.code 13) lease-set (cond (eqb c.code 14) lease-cnt (time-left c.peer))))))))

-- What the rules answer to a set-up card: the own id in peer, the population in size, T in first, the heartbeat in second, the reading in number.
abbrev pub set_up_by : CallC → Answered (Unit {0})
set_up_by c = setup_of c.peer c.size c.first c.second (record { 0 = c.number })

-- An accepted set-up card.
abbrev pub is_set_up : CallC → Bool
is_set_up c = cond (eqb c.code 1) (is_ok (set_up_by c).outcome) false

-- ---- a manager's history: the last accepted set-up card, the calls since, and the Promise lines of the logs that a set-up has ended

pub record History : Type 0 where
  pub set_up : CallC
  pub calls : List Call
  pub earlier : ℕ

-- The rules' own run of the calls, and its journal: the log, and what else of the calls decides.
abbrev pub run_by : History → Run
run_by h = run_of h.set_up.peer h.set_up.size h.set_up.first h.set_up.second (record { 0 = h.set_up.number }) h.calls

abbrev pub journal_of : History → Journal
journal_of h = (run_by h).journal

-- All Promise lines, those of ended logs and those of the log that goes on.
abbrev pub all_promises : History → ℕ
all_promises h = h.earlier + promise_lines (journal_of h).log

-- An accepted set-up starts anew; a refused one, and a card that is no call, stands for nothing.
abbrev pub after_card : History → CallC → History
after_card h c =
    cond (eqb c.code 1)
    (cond (is_ok (set_up_by c).outcome) (record { set_up = c; calls = []; earlier = all_promises h }) h)
    (cond (is_call c) (record { set_up = h.set_up; calls = h.calls ++ (rule_call c ∷ []); earlier = h.earlier }) h)

abbrev pub history_from : History → List CallC → History
history_from h [] = h
history_from h (c ∷ cs) = history_from (after_card h c) cs

-- Of the cards behind an accepted set-up card.
abbrev pub history_of : CallC → List CallC → History
history_of set_up cards = history_from (record { set_up = set_up; calls = []; earlier = 0 }) cards

-- ---- the log theorem

-- What the answers g, l and k to grant set, lease set and lease count, and the count of Promise lines, have to be.
pub record AnswersByLog (h : History) (g l k : AnswerC) (promises : ℕ) : Type 0 where
  pub grants : g ≡ set_answer (Ok (grants_by h.set_up.peer h.set_up.size h.set_up.first (journal_of h)))
  pub leases : l ≡ set_answer (Ok (leases_by h.set_up.size h.set_up.first (journal_of h)))
  pub count : k ≡ count_answer (Ok (lease_count_by h.set_up.size h.set_up.first (journal_of h)))
  pub balanced : Balanced h.set_up.size (journal_of h)
  pub promise_count : promises ≡ all_promises h

-- From an accepted set-up on any record, after any list of cards: the answers to cards of codes 12, 13 and 14, and the count of Promise lines
-- of all answers, are what the log says.
abbrev pub HostLogTheorem : Type 0
HostLogTheorem =
    (f : ManagerC) (c : CallC) → c.code ≡ 1 → (call_of f c).answer.refused ≡ 0 → (cards : List CallC)
    → (g l k : CallC) → g.code ≡ 12 → l.code ≡ 13 → k.code ≡ 14
    → let m = (call_of f c).manager in
    let e = after_cards m cards in
    AnswersByLog (history_of c cards) (call_of e g).answer (call_of e l).answer (call_of e k).answer (promises_from m cards)
