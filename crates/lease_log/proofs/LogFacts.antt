-- How the log's counts and last lines change when lines are added at its end. Assumes nothing.
use mathlib.Core.Path.{◌≡◌, refl, ap, sym, ◌∙◌}
use mathlib.Core.Logic.{◌≢◌}
use mathlib.Core.List.{List, [], ◌∷◌, ◌++◌}
use mathlib.Core.Bool.{Bool, true, false, not, cond, ◌&&◌, ◌||◌}
use Prim.Native.Nat.{ℕ, ◌+◌, ◌<◌}
use native.Mathlib.Nat.{le_refl}
use native.Mathlib.Omega.{arith}
use lib.Dec.{eqb}
use borrow.Author.Tests.{eqb-true, eq-eqb, ne_eqb, le-ltb}
use Rattle.lease.specs.Sets.{one}
use Rattle.lease.specs.Types.{Clock, Reading}
use Rattle.lease.specs.declared.LeaseNum.{LeaseNum}
use Rattle.lease.specs.declared.LeaseAction.{LeaseAction}
use Rattle.lease.specs.declared.Line.{Line}
use Rattle.lease.specs.declared.Actions.{Actions}
use Rattle.lease.specs.declared.LeaseAction.TheVariants as A
use Rattle.lease.specs.declared.Actions.TheVariants as AS
use Rattle.lease.specs.Notices.{line, numbered}
use Rattle.lease.specs.Verdicts.{lines_of}
use Rattle.lease_log.specs.Log.{LogLine, log-line, stamped, concerns, says_promise, is_promise, is_end, ended_in, open_lines, promise_lines, ended_lines, Last, held_after, held_by, top_after, top_of, last_from}
use Rattle.reachable.proofs.Numbers.{Same, same, apart, sameb}
use Rattle.lease_log.proofs.Sums.{sum_below, sum_below-cong, sum_below-add, sum_below-zero, sum_below-one}

-- ---- lines at the end

pub promise_lines-append : (a b : List LogLine) → promise_lines (a ++ b) ≡ promise_lines a + promise_lines b
promise_lines-append [] b = omega arith
promise_lines-append (log-line n x r c ∷ a) b = let e = promise_lines-append a b in omega arith

or_assoc : (a b c : Bool) → a || (b || c) ≡ (a || b) || c
or_assoc true b c = refl
or_assoc false b c = refl

or-true : (a : Bool) → a || true ≡ true
or-true true = refl
or-true false = refl

or-false : (a : Bool) → a || false ≡ a
or-false true = refl
or-false false = refl

and-false : (a : Bool) → a && false ≡ false
and-false true = refl
and-false false = refl

pub ended-append : (p : ℕ) (xs ys : List LogLine) → ended_in p (xs ++ ys) ≡ ended_in p xs || ended_in p ys
ended-append p [] ys = refl
ended-append p (log-line n a r c ∷ xs) ys =
    ap (λ b. (concerns a p && is_end a) || b) (ended-append p xs ys) ∙ or_assoc (concerns a p && is_end a) (ended_in p xs) (ended_in p ys)

pub open-append : (p : ℕ) (xs ys : List LogLine) → open_lines p (xs ++ ys) ≡ cond (ended_in p ys) 0 (open_lines p xs) + open_lines p ys
open-append p [] ys = go (ended_in p ys)
  where
    go : (b : Bool) → open_lines p ys ≡ cond b 0 0 + open_lines p ys
    go true = omega arith
    go false = omega arith
open-append p (log-line n a r c ∷ xs) ys = go (concerns a p && is_promise a) (ended_in p ys) (ended-append p xs ys) (open-append p xs ys)
  where
    go : (x b : Bool) → ended_in p (xs ++ ys) ≡ ended_in p xs || b → open_lines p (xs ++ ys) ≡ cond b 0 (open_lines p xs) + open_lines p ys
        → one (x && not (ended_in p (xs ++ ys))) + open_lines p (xs ++ ys)
        ≡ cond b 0 (one (x && not (ended_in p xs)) + open_lines p xs) + open_lines p ys
    go x true e ih = rw (e, or-true (ended_in p xs), and-false x, ih) (omega arith)
    go x false e ih = rw (e, or-false (ended_in p xs), ih) (omega arith)

pub top-append : (top : ℕ) (xs ys : List LogLine) → top_of top (xs ++ ys) ≡ top_of (top_of top xs) ys
top-append top [] ys = refl
top-append top (log-line n a r c ∷ xs) ys = top-append (top_after n.0 a top) xs ys

pub last-append : (p top : ℕ) (h : Last) (xs ys : List LogLine) → last_from p top h (xs ++ ys) ≡ last_from p (top_of top xs) (last_from p top h xs) ys
last-append p top h [] ys = refl
last-append p top h (log-line n a r c ∷ xs) ys =
    last-append p (top_after n.0 a top) (held_by p top (log-line n a r c) h) xs ys

-- ---- the balance

-- a message is to an id below the population
abbrev pub Sent : ℕ → LeaseAction → Type 0
Sent pop (A.SendLeaseMsg q msg) = q < pop
Sent pop (A.BcastLeaseMsgs set msg) = Unit {0}
Sent pop (A.NextRefresh q) = Unit {0}
Sent pop (A.GrantRemoved q held) = Unit {0}
Sent pop A.LeaseCleared = Unit {0}
Sent pop (A.GrantTimeout q) = Unit {0}
Sent pop (A.LeaseTimeout q) = Unit {0}
Sent pop A.HigherNumber = Unit {0}
Sent pop (A.GuardAcceptBar q bar) = Unit {0}

abbrev pub Within : ℕ → List LogLine → Type 0
Within pop [] = Unit {0}
Within pop (log-line n a r c ∷ l) = Sent pop a × Within pop l

pub within-append : (pop : ℕ) (xs ys : List LogLine) → Within pop xs → Within pop ys → Within pop (xs ++ ys)
within-append pop [] ys w v = v
within-append pop (log-line n a r c ∷ xs) ys w v = (w.0, within-append pop xs ys w.1 v)

module _ (pop : ℕ) (l : List LogLine) where
  abbrev opens : ℕ
  opens = sum_below pop (λ p. open_lines p l)

  -- a line that promises nothing adds nothing to the open lines of anybody
  idle : (f : ℕ → Bool) → sum_below pop (λ p. one ((f p && false) && not (ended_in p l)) + open_lines p l) ≡ opens
  idle f = sum_below-cong pop (λ p. one ((f p && false) && not (ended_in p l)) + open_lines p l) (λ p. open_lines p l) (λ p h. rw (and-false (f p)) (omega arith))

  one_more : (q : ℕ) (b : Bool) → q < pop
      → sum_below pop (λ p. one ((eqb q p && b) && not (ended_in p l)) + open_lines p l) ≡ one (b && not (ended_in q l)) + opens
  one_more q b h =
      let f : ℕ → ℕ = λ p. one ((eqb q p && b) && not (ended_in p l)) in
      let g : ℕ → ℕ = λ p. cond (eqb q p) (one (b && not (ended_in q l))) 0 in
      sum_below-add pop f (λ p. open_lines p l)
      ∙ ap (λ x. x + sum_below pop (λ p. open_lines p l)) (sum_below-cong pop f g (λ p k. at p (sameb q p)) ∙ sum_below-one pop q (one (b && not (ended_in q l))) h)
    where
      at : (p : ℕ) → Same q p → one ((eqb q p && b) && not (ended_in p l)) ≡ cond (eqb q p) (one (b && not (ended_in q l))) 0
      at p (same e k) = rw e (ap (λ x. one (b && not (ended_in x l))) (sym k))
      at p (apart e k) = rw e refl

pub balance : (pop : ℕ) (l : List LogLine) → Within pop l → promise_lines l ≡ ended_lines l + sum_below pop (λ p. open_lines p l)
balance pop [] w = let z = sum_below-zero pop (λ p. 0) (λ i h. refl) in omega arith
balance pop (log-line n (A.SendLeaseMsg q msg) r c ∷ l) w =
    rw (one_more pop l q (says_promise msg) w.0) (go (says_promise msg) (ended_in q l) (balance pop l w.1))
  where
    go : (b x : Bool) → promise_lines l ≡ ended_lines l + sum_below pop (λ p. open_lines p l)
        → one b + promise_lines l ≡ one (b && x) + ended_lines l + (one (b && not x) + sum_below pop (λ p. open_lines p l))
    go true true ih = omega arith
    go true false ih = omega arith
    go false x ih = omega arith
balance pop (log-line n (A.BcastLeaseMsgs set msg) r c ∷ l) w = let ih = balance pop l w.1 in let z = idle pop l (λ p. false) in omega arith
balance pop (log-line n (A.NextRefresh q) r c ∷ l) w = let ih = balance pop l w.1 in let z = idle pop l (eqb q) in omega arith
balance pop (log-line n (A.GrantRemoved q held) r c ∷ l) w = let ih = balance pop l w.1 in let z = idle pop l (eqb q) in omega arith
balance pop (log-line n A.LeaseCleared r c ∷ l) w = let ih = balance pop l w.1 in let z = idle pop l (λ p. true) in omega arith
balance pop (log-line n (A.GrantTimeout q) r c ∷ l) w = let ih = balance pop l w.1 in let z = idle pop l (eqb q) in omega arith
balance pop (log-line n (A.LeaseTimeout q) r c ∷ l) w = let ih = balance pop l w.1 in let z = idle pop l (eqb q) in omega arith
balance pop (log-line n A.HigherNumber r c ∷ l) w = let ih = balance pop l w.1 in let z = idle pop l (λ p. true) in omega arith
balance pop (log-line n (A.GuardAcceptBar q bar) r c ∷ l) w = let ih = balance pop l w.1 in let z = idle pop l (eqb q) in omega arith

-- ---- the actions of one notice

abbrev pub actions_of : Actions → List LeaseAction
actions_of AS.None = []
actions_of (AS.One a) = a ∷ []
actions_of (AS.Two a b) = a ∷ b ∷ []

abbrev pub lines_under : LeaseNum → List LeaseAction → List Line
lines_under num [] = []
lines_under num (a ∷ l) = line num a ∷ lines_under num l

pub numbered-same : (num : LeaseNum) (ds : Actions) → lines_of (numbered num false ds) ≡ lines_under num (actions_of ds)
numbered-same num AS.None = refl
numbered-same num (AS.One a) = refl
numbered-same num (AS.Two a b) = refl

pub numbered-higher : (num : LeaseNum) (ds : Actions) → lines_of (numbered num true ds) ≡ line num A.HigherNumber ∷ lines_under num (actions_of ds)
numbered-higher num AS.None = refl
numbered-higher num (AS.One a) = refl
numbered-higher num (AS.Two a b) = refl

-- what actions about one peer do to the view of that peer
abbrev pub ended_actions : List LeaseAction → Bool
ended_actions [] = false
ended_actions (a ∷ l) = is_end a || ended_actions l

abbrev pub open_actions : List LeaseAction → ℕ
open_actions [] = 0
open_actions (a ∷ l) = one (is_promise a && not (ended_actions l)) + open_actions l

abbrev pub last_actions : Reading → Clock → List LeaseAction → Last → Last
last_actions r c [] h = h
last_actions r c (a ∷ l) h = last_actions r c l (held_after r c a h)

-- the actions are about the peer q and no other
abbrev pub About : ℕ → List LeaseAction → Type 0
About q [] = Unit {0}
About q (a ∷ l) = ((p : ℕ) → concerns a p ≡ eqb q p) × About q l

pub top-same : (n : ℕ) (a : LeaseAction) → top_after n a n ≡ n
top-same n (A.SendLeaseMsg q msg) = refl
top-same n (A.BcastLeaseMsgs set msg) = refl
top-same n (A.NextRefresh q) = refl
top-same n (A.GrantRemoved q held) = refl
top-same n A.LeaseCleared = refl
top-same n (A.GrantTimeout q) = refl
top-same n (A.LeaseTimeout q) = refl
top-same n A.HigherNumber = refl
top-same n (A.GuardAcceptBar q bar) = refl

pub sent-about : (pop q : ℕ) (a : LeaseAction) → q < pop → ((p : ℕ) → concerns a p ≡ eqb q p) → Sent pop a
sent-about pop q (A.SendLeaseMsg x msg) h k = let e : q ≡ x = eqb-true q x (sym (k x) ∙ eq-eqb x x refl) in omega arith
sent-about pop q (A.BcastLeaseMsgs set msg) h k = tt
sent-about pop q (A.NextRefresh x) h k = tt
sent-about pop q (A.GrantRemoved x held) h k = tt
sent-about pop q A.LeaseCleared h k = tt
sent-about pop q (A.GrantTimeout x) h k = tt
sent-about pop q (A.LeaseTimeout x) h k = tt
sent-about pop q A.HigherNumber h k = tt
sent-about pop q (A.GuardAcceptBar x bar) h k = tt

module _ (num : LeaseNum) (r : Reading) (c : Clock) where
  pub top-lined : (l : List LeaseAction) → top_of num.0 (stamped r c (lines_under num l)) ≡ num.0
  top-lined [] = refl
  top-lined (a ∷ l) = ap (λ x. top_of x (stamped r c (lines_under num l))) (top-same num.0 a) ∙ top-lined l

  module _ (q : ℕ) where
    pub ended-own : (l : List LeaseAction) → About q l → ended_in q (stamped r c (lines_under num l)) ≡ ended_actions l
    ended-own [] k = refl
    ended-own (a ∷ l) k = rw (k.0 q, eq-eqb q q refl, ended-own l k.1) refl

    pub open_own : (l : List LeaseAction) → About q l → open_lines q (stamped r c (lines_under num l)) ≡ open_actions l
    open_own [] k = refl
    open_own (a ∷ l) k = rw (k.0 q, eq-eqb q q refl, ended-own l k.1, open_own l k.1) refl

    pub last-own : (l : List LeaseAction) → About q l → (h : Last) → last_from q num.0 h (stamped r c (lines_under num l)) ≡ last_actions r c l h
    last-own [] k h = refl
    last-own (a ∷ l) k h =
        let step : held_by q num.0 (log-line num a r c) h ≡ held_after r c a h = rw (le-ltb num.0 num.0 (le_refl num.0), k.0 q, eq-eqb q q refl) in
        ap (λ x. last_from q x (held_by q num.0 (log-line num a r c) h) (stamped r c (lines_under num l))) (top-same num.0 a)
        ∙ ap (λ x. last_from q num.0 x (stamped r c (lines_under num l))) step ∙ last-own l k.1 (held_after r c a h)

    pub within-own : (pop : ℕ) → q < pop → (l : List LeaseAction) → About q l → Within pop (stamped r c (lines_under num l))
    within-own pop h [] k = tt
    within-own pop h (a ∷ l) k = (sent-about pop q a h k.0, within-own pop h l k.1)

    module _ (p : ℕ) (ne : q ≢ p) where
      pub ended-other : (l : List LeaseAction) → About q l → ended_in p (stamped r c (lines_under num l)) ≡ false
      ended-other [] k = refl
      ended-other (a ∷ l) k = rw (k.0 p, ne_eqb q p ne, ended-other l k.1) refl

      pub open-other : (l : List LeaseAction) → About q l → open_lines p (stamped r c (lines_under num l)) ≡ 0
      open-other [] k = refl
      open-other (a ∷ l) k = rw (k.0 p, ne_eqb q p ne, open-other l k.1) refl

      pub last-other : (l : List LeaseAction) → About q l → (h : Last) → last_from p num.0 h (stamped r c (lines_under num l)) ≡ h
      last-other [] k h = refl
      last-other (a ∷ l) k h =
          let step : held_by p num.0 (log-line num a r c) h ≡ h = rw (le-ltb num.0 num.0 (le_refl num.0), k.0 p, ne_eqb q p ne) in
          ap (λ x. last_from p x (held_by p num.0 (log-line num a r c) h) (stamped r c (lines_under num l))) (top-same num.0 a)
          ∙ ap (λ x. last_from p num.0 x (stamped r c (lines_under num l))) step ∙ last-other l k.1 h
