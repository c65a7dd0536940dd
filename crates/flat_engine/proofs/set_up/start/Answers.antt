-- The fields, and a blank row in each place.
use Rattle.std.proofs.Common.{rules, ◌≡◌, ◌∙◌, ap, length}
use Rattle.std.specs.Prelude.{ℕ, replicate}
use Rattle.lease.specs.Bitmaps.{capacity}
use Rattle.flat_record.specs.Sound.{blank_row}
use Rattle.flat_engine.proofs.Laws.{fresh_put}
use Rattle.flat_engine.proofs.set_up.start.Goals as goal

pub returns : goal.returns
returns c =
    let all : length c.args.f.now.peers ≡ capacity = search rules in
    rw c.clock_drifting-f.ensures (fresh_put c.args.me c.args.n c.args.t c.args.now c.clock_quotient-f.result c.fill.new.self c.clock_quotient-f.ensures (c.fill.ensures.after (λ y h. h) ∙ ap (λ (n : ℕ). replicate n blank_row) all))
