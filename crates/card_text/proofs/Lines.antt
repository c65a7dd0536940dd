-- The claims of output lines: what is written is read, what is read is what is written, and what a card gives has room. Assumes nothing.
use Rattle.std.specs.Prelude.{Option, None, Some, Result, Ok, Err}
use Prim.Native.Nat.{ℕ, ◌*◌, ◌≤◌}
use native.Mathlib.Omega.{arith}
use mathlib.Core.Path.{◌≡◌, refl}
use mathlib.Core.List.{[], ◌∷◌, append_assoc, append-nil}
use lib.Dec.{leb}
use borrow.Author.Tests.{leb-true}
use Rattle.lease.proofs.Tests.{both}
use lib.ListN.{length, length-append, length-take}
use Rattle.lease.specs.declared.Line.{Line}
use Rattle.lease.specs.declared.Lines.{Lines}
use Rattle.lease.specs.declared.Lines.TheVariants as L
use Rattle.card_text.proofs.FiveColumns.{five-written-is-read, five-read-is-written}
use Rattle.wire.specs.declared.lines.LineC.{LineC}
use Rattle.wire.specs.Lines.{line_c}
use Rattle.wire.specs.declared.events.CardGiven.{CardGiven}
use Rattle.wire.specs.declared.events.CardRefusal.{CardRefusal}
use Rattle.wire.specs.declared.events.CardGiven.TheVariants as O
use Rattle.card_text.specs.Text.{lines_read}
use Rattle.card_text.specs.Lines.{line_columns, line_text, text_of, notice_lines, quiet_lines, outcome_lines, room_of, most_bytes, line_fits, line_read, lines_in}
use Rattle.card_text.specs.Claims.{HasColumns, LinesWrittenAreRead, LineReadIsWritten, OutcomeHasRoom}
use Rattle.card_text.proofs.LineText.{length-text, length-fired}
use Rattle.card_text.proofs.Newlines.{Unbroken, unbroken-both, unbroken-column, line-ended}

-- ---- what is written is read, and what is read is what is written

-- one line, without its newline
pub written-is-read : (l : LineC) → HasColumns l → line_read (line_columns l) ≡ Some l
unfolding line_read line_columns line_fits
written-is-read l h =
    let fits = both (leb l.code 99) (leb l.peer 9999) h.1 in
    let code = leb-true l.code 99 fits.0 in
    let peer = leb-true l.peer 9999 fits.1 in
    five-written-is-read LineC line_c 1 20 3 20 20 l.code l.number l.peer l.first l.second
    (omega arith, omega arith) (omega arith, omega arith) (omega arith, omega arith) (omega arith, omega arith) (omega arith, omega arith)

unbroken-line : (l : LineC) → Unbroken (line_columns l)
unfolding line_columns
unbroken-line l =
    unbroken-both _ _
    (unbroken-both _ _
    (unbroken-both _ _ (unbroken-both _ _ (unbroken-column 2 l.code) (unbroken-column 21 l.number)) (unbroken-column 4 l.peer))
    (unbroken-column 21 l.first))
    (unbroken-column 21 l.second)

-- any lines, with their newlines
pub lines-written-are-read : LinesWrittenAreRead
unfolding text_of line_text lines_read
lines-written-are-read [] all = refl
lines-written-are-read (l ∷ ls) all =
    rw (
      append_assoc (line_columns l) (10 ∷ []) (text_of ls),
      line-ended (Option LineC) line_read None [] (line_columns l) (text_of ls) (unbroken-line l),
      written-is-read l all.0,
      lines-written-are-read ls all.1,
    )
    refl

-- one line, with its newline
pub line-comes-back : (l : LineC) → HasColumns l → lines_in (line_text l) ≡ Some l ∷ []
unfolding text_of
line-comes-back l all = rw append-nil at (lines-written-are-read (l ∷ []) (all, tt))

pub read-is-written : LineReadIsWritten
unfolding line_read line_columns
read-is-written line l e =
    let five = five-read-is-written LineC line_c 2 21 4 21 21 line l e in
    rw (← five.made) five.columns

-- ---- what a card gives has room

notice-few : (lines : Lines) → length (notice_lines lines) ≤ 3
unfolding notice_lines
notice-few L.None = omega arith
notice-few (L.One a) = omega arith
notice-few (L.Two a b) = omega arith
notice-few (L.Three a b d) = omega arith

quiet-few : (end : Option Line) → length (quiet_lines end) ≤ 1
unfolding quiet_lines
quiet-few None = omega arith
quiet-few (Some line) = omega arith

outcome-few :
    (card : ℕ) (outcome : Result CardGiven CardRefusal)
    → (70 * length (outcome_lines card outcome) ≤ room_of outcome) × (room_of outcome ≤ most_bytes)
unfolding outcome_lines room_of
outcome-few card (Err k) = (omega arith, omega arith)
outcome-few card (Ok O.Done) = (omega arith, omega arith)
outcome-few card (Ok (O.Acted lines)) = (omega (arith, notice-few lines), omega arith)
outcome-few card (Ok (O.Fired num fired end)) =
    let q = quiet-few end in
    (simp (length-append, length-fired, length-take) (omega arith), omega arith)

pub outcome-has-room : OutcomeHasRoom
outcome-has-room card outcome = rw (length-text (outcome_lines card outcome)) (outcome-few card outcome)
