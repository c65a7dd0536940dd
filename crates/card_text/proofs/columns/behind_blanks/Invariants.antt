-- What is left gives what all of it gives.
use Rattle.std.proofs.Common.{◌≡◌, ◌≤◌, ◌-◌, drop, length}
use Rattle.card_text.specs.Columns.{number_of}
use Rattle.card_text.proofs.columns.behind_blanks.Given as goal

abbrev pub invariant-loop-i : goal.invariant-loop-i
invariant-loop-i l = record { bound : l.i ≤ length l.columns; same : number_of (drop l.i l.columns) ≡ number_of l.columns }

abbrev pub decreases-loop-i : goal.decreases-loop-i
decreases-loop-i l = length l.columns - l.i
