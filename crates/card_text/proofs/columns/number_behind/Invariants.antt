-- The digits so far say `number`.
use Rattle.std.proofs.Common.{◌≡◌, drop}
use Rattle.card_text.specs.Columns.{number_behind}
use Rattle.card_text.proofs.columns.number_behind.Given as goal

abbrev pub invariant-loop-b : goal.invariant-loop-b
invariant-loop-b l = number_behind l.number (drop l.b-index l.digits) ≡ number_behind l.fn.v l.digits
