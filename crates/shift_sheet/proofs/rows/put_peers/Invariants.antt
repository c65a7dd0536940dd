-- The loop's invariant: the rows of the ids so far are laid.
use Rattle.std.proofs.Common.{◌≡◌, length}
use Rattle.card_text.specs.Lines.{laid}
use Rattle.shift_sheet.specs.Sheet.{rows_below, rows_text}
use Rattle.shift_sheet.proofs.rows.put_peers.Given as goal

abbrev pub invariant-loop-i : goal.invariant-loop-i
invariant-loop-i l =
    (l.written ≡ length (rows_text (rows_below l.m l.i)))
    × (l.out ≡ laid (rows_text (rows_below l.m l.i)) l.initial.out)
