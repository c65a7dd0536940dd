-- The four bytes, and what is behind them.
use Rattle.std.proofs.Common.{◌≡◌, ◌∙◌, ◌+◌, sym, ap, refl, drop, Some, None, Option, ℕ, IfSome}
use Rattle.card_text.specs.Columns.{number_behind}
use Rattle.card_text.proofs.Fields.{four, four_rest, goes_on}
use Rattle.card_text.proofs.columns.four_more.Goals as goal

some : (o : Option ℕ) (P : ℕ → Type 0) → ((n : ℕ) → o ≡ Some n → P n) → IfSome o P
some None P f = tt
some (Some n) P f = f n refl

pub returns : goal.returns
returns c =
    let s = c.args.columns.now in
    let i = c.args.i in
    let v = c.args.v in
    some c.with_four.result _ (λ n is. ap (number_behind v) (four_rest s i c.requires) ∙ goes_on v (four s i) (drop (i + 4) s) n (sym c.with_four.ensures ∙ is))
