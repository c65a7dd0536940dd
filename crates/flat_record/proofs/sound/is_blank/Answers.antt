-- The tests, put into the order of the definitions.
use Rattle.std.proofs.Common.{◌≡◌, ◌&&◌, true, false, sym, ◌∙◌}
use Rattle.flat_record.specs.Sound.{sent_blank, held_blank}
use Rattle.flat_record.proofs.RowTests.{blank}
use Rattle.flat_record.proofs.sound.is_blank.Goals as goal

pub returns-then-are_blank_sides : goal.returns-then-are_blank_sides
returns-then-are_blank_sides c =
    let e : (sent_blank c.args.p.now && held_blank c.args.p.now) ≡ true = sym c.are_blank_sides.ensures ∙ c.if-are_blank_sides.true in
    rw e at (blank c.args.p.now)

pub returns-else-are_blank_sides : goal.returns-else-are_blank_sides
returns-else-are_blank_sides c =
    let e : (sent_blank c.args.p.now && held_blank c.args.p.now) ≡ false = sym c.are_blank_sides.ensures ∙ c.if-are_blank_sides.false in
    c.if-are_blank_sides.false ∙ (rw e at (blank c.args.p.now))
