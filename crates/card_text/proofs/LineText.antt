-- The text of output lines: how long it is, and how it is laid over bytes line by line. Assumes nothing.
use Rattle.std.proofs.Common.{true, false, ◌≡◌, refl, sym, ap, ℕ, suc, ◌+◌, ◌*◌, ◌≤◌, ◌<◌, List, [], ◌∷◌, ◌++◌, length, take, drop, get_or, append_assoc, arith, length-append, length-take-le, length-drop, ◌-◌}
use borrow.Rule.Slice.PartMut.{put_mid}
use Rattle.std.proofs.lemmas.List.{take_all, drop_all}
use mathlib.Core.List.{append-nil}
use native.Mathlib.Numerals.{add-one}
use lib.ListN.{length-take}
use lib.Seq.{sets, take-suc, take_at, drop_at, drop-drop}
use Rattle.lease.specs.declared.FiredTimer.{FiredTimer}
use Rattle.lease.specs.declared.FiredTimers.{FiredTimers}
use Rattle.std.specs.Prelude.{Option}
use Rattle.lease.specs.declared.Line.{Line}
use Rattle.lease.specs.Fired.{listed_in, fired_array}
use Rattle.lease.specs.declared.LeaseNum.{LeaseNum}
use Rattle.lease.specs.declared.LeaseAction.TheVariants as A
use Rattle.lease.specs.declared.Actions.{Actions}
use Rattle.lease.specs.declared.Actions.TheVariants as AS
use Rattle.lease.specs.Notices.{line, numbered}
use Rattle.wire.specs.Lines.{line_of}
use Rattle.card_text.specs.Columns.{places, column}
use Rattle.card_text.proofs.Text.{sets-laid}
use Rattle.wire.specs.declared.lines.LineC.{LineC}
use Rattle.card_text.specs.Lines.{line_columns, line_text, text_of, laid, notice_lines, quiet_lines, timer_line, timer_lines, timers_bytes}

-- ---- one line

pub length-columns : (l : LineC) → length (line_columns l) ≡ 69
unfolding line_columns column places
length-columns l = refl

pub length_line : (l : LineC) → length (line_text l) ≡ 70
unfolding line_text line_columns column places
length_line l = refl

-- a line with its newline laid over the start of a list
pub line_laid : (l : LineC) (xs : List ℕ) → 70 ≤ length xs → sets xs 0 (line_text l) ≡ laid (line_text l) xs
line_laid l xs h = sets-laid xs (line_text l) (rw (length_line l) h)

-- ---- lines

pub text_of_both : (a b : List LineC) → text_of (a ++ b) ≡ text_of a ++ text_of b
unfolding text_of
text_of_both [] b = refl
text_of_both (l ∷ a) b = rw (text_of_both a b, append_assoc (line_text l) (text_of a) (text_of b))

pub length_both : (a b : List LineC) → length (text_of (a ++ b)) ≡ length (text_of a) + length (text_of b)
length_both a b = rw (text_of_both a b) (length-append (text_of a) (text_of b))

pub text_of_one : (l : LineC) → text_of (l ∷ []) ≡ line_text l
unfolding text_of
text_of_one l = append-nil (line_text l)

pub length-text : (ls : List LineC) → length (text_of ls) ≡ 70 * length ls
unfolding text_of
length-text [] = refl
length-text (l ∷ ls) = rw (length-append (line_text l) (text_of ls), length_line l, length-text ls) (omega arith)

pub length_one : (l : LineC) → length (text_of (l ∷ [])) ≡ 70
length_one l = rw (text_of_one l) (length_line l)

-- text laid behind text: of the bytes that the first text left, the part behind it is written
pub laid_behind :
    (a b xs ys zs : List ℕ) (n : ℕ) → n ≡ length a → ys ≡ laid a xs → zs ≡ laid b (take (length ys - n) (drop n ys)) → put_mid n (length ys - n) ys zs ≡ laid (a ++ b) xs
laid_behind a b xs ys zs n e f g =
    let h : n ≤ length ys = rw (f, length-append a (drop (length a) xs)) (omega arith) in
    let front : take n (laid a xs) ≡ a = take_at a (drop (length a) xs) n (sym e) in
    let rest : drop n (laid a xs) ≡ drop (length a) xs = drop_at a (drop (length a) xs) n (sym e) in
    let part : take (length ys - n) (drop n ys) ≡ drop n ys = take_all (length ys - n) (drop n ys) (omega (arith, length-drop n ys)) in
    let past : drop (length ys - n) (drop n ys) ≡ [] = drop_all (length ys - n) (drop n ys) (omega (arith, length-drop n ys)) in
    rw (past, g, part, f, front, rest, append-nil (b ++ drop (length b) (drop (length a) xs)), drop-drop (length b) (length a) xs, length-append a b, append_assoc a b (drop (length a + length b) xs)) refl

-- a line laid over a part as long as it, and text over what is behind
pub first_laid : (l : LineC) (b xs : List ℕ) → 70 ≤ length xs → laid (line_text l) (take 70 xs) ++ laid b (drop 70 xs) ≡ laid (line_text l ++ b) xs
first_laid l b xs h =
    let n = length_line l in
    let none : drop 70 (take 70 xs) ≡ [] = drop_all 70 (take 70 xs) (omega (arith, length-take-le 70 xs h)) in
    rw (n, none, append-nil (line_text l), length-append (line_text l) b, n, drop-drop (length b) 70 xs, append_assoc (line_text l) b (drop (70 + length b) xs)) refl

-- ---- the timers that fired

fired-append : (num : ℕ) (a b : List FiredTimer) → timer_lines num (a ++ b) ≡ timer_lines num a ++ timer_lines num b
unfolding timer_lines
fired-append num [] b = refl
fired-append num (t ∷ a) b = rw (fired-append num a b)

-- the lines of the first k timers of a list, and then the next one's line
pub fired_next : (num : ℕ) (ts : List FiredTimer) (k : ℕ) (d : FiredTimer) → k < length ts → text_of (timer_lines num (take (k + 1) ts)) ≡ text_of (timer_lines num (take k ts)) ++ line_text (timer_line num (get_or ts k d))
unfolding timer_lines
fired_next num ts k d h =
    let one = timer_line num (get_or ts k d) in
    rw (add-one k, take-suc ts k d h, fired-append num (take k ts) (get_or ts k d ∷ []), text_of_both (timer_lines num (take k ts)) (one ∷ []), text_of_one one)

pub length-fired : (num : ℕ) (ts : List FiredTimer) → length (timer_lines num ts) ≡ length ts
unfolding timer_lines
length-fired num [] = refl
length-fired num (t ∷ ts) = ap suc (length-fired num ts)

-- 70 bytes for each timer
pub fired_length : (num : ℕ) (ts : List FiredTimer) → length (text_of (timer_lines num ts)) ≡ length ts * 70
fired_length num ts = rw (length-text (timer_lines num ts), length-fired num ts) (omega arith)

pub fired_end : (num : ℕ) (f : FiredTimers) → length (text_of (timer_lines num (listed_in f))) ≤ timers_bytes
fired_end num f = rw (fired_length num (listed_in f), length-take) (omega arith)

-- the line of a number that was raised stands before the others
pub higher_first : (num : LeaseNum) (a : Actions) → text_of (notice_lines (numbered num true a)) ≡ line_text (line_of (line num A.HigherNumber)) ++ text_of (notice_lines (numbered num false a))
unfolding notice_lines text_of
higher_first num AS.None = refl
higher_first num (AS.One a) = refl
higher_first num (AS.Two a b) = refl

-- of no timers there is none
pub nothing_listed : (num : ℕ) (end : Option Line) → timer_lines num (listed_in (fired_array [])) ++ quiet_lines end ≡ quiet_lines end
unfolding timer_lines fired_array
nothing_listed num end = refl
