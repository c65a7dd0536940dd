-- `wire::calls::percent_of` meets its contract: nothing wraps, since the remainder is below 256.
use Rattle.std.proofs.Common.{ap, ◌∙◌, ◌%◌}
use lib.IntN.{ℤ, sub_ℕ}
use mir.Syntax.{w8}
use mir.Val.{to_z, of_z}
use mir.ValLaws.{to_z-of_z}
use Rattle.wire.proofs.Percent as percent
use Rattle.wire.specs.Cards.{percent_of}
use Rattle.wire.proofs.calls.percent_of.Goals as goal

pub returns : goal.returns
unfolding percent_of
returns c = ap (λ (z : ℤ). to_z w8 (of_z w8 z)) (percent.read-less c.args.n) ∙ to_z-of_z w8 (sub_ℕ (c.args.n % 256) 128) (percent.fits8 c.args.n)
