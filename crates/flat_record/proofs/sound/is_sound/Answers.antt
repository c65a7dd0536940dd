-- The tests, put into the order of the definitions.
use Rattle.std.proofs.Common.{◌∙◌, sym, refl}
use mathlib.Core.Bool.{true≢false}
use Rattle.lease.specs.RecordCheck.{record_valid}
use Rattle.wire.specs.Form.{is_record}
use Rattle.wire.specs.FromFlat.{manager_of}
use Rattle.lease.proofs.Tests.{fst-of}
use Rattle.wire.proofs.FlatLaws.{back-and-there}
use Rattle.flat_record.proofs.RowTests.{record-at}
use Rattle.flat_record.proofs.sound.is_sound.Goals as goal

pub returns-then-limited-clause-sound : goal.returns-then-limited-clause-sound
returns-then-limited-clause-sound c =
    let r = c.are_sound_rows in
    let e = record-at c.args.f.now c.is_sound_clock.result c.is_sound_quiet.result c.are_valid_limits.result r.result c.is_sound_clock.ensures.sound c.is_sound_quiet.ensures c.are_valid_limits.ensures r.ensures in
    rw c.if-limited.true at e

pub returns-else-limited-clause-sound : goal.returns-else-limited-clause-sound
returns-else-limited-clause-sound c =
    let e = record-at c.args.f.now c.is_sound_clock.result c.is_sound_quiet.result c.are_valid_limits.result _ c.is_sound_clock.ensures.sound c.is_sound_quiet.ensures c.are_valid_limits.ensures refl in
    c.if-limited.false ∙ (rw c.if-limited.false at e)

pub returns-then-limited-clause-same : goal.returns-then-limited-clause-same
returns-then-limited-clause-same c t =
    let f = c.args.f.now in
    let e = record-at f c.is_sound_clock.result c.is_sound_quiet.result c.are_valid_limits.result c.are_sound_rows.result c.is_sound_clock.ensures.sound c.is_sound_quiet.ensures c.are_valid_limits.ensures c.are_sound_rows.ensures in
    back-and-there f c.is_sound_clock.ensures.f64 (fst-of (is_record f) (record_valid (manager_of f)) (sym (rw c.if-limited.true at e) ∙ t))

pub returns-else-limited-clause-same : goal.returns-else-limited-clause-same
returns-else-limited-clause-same c t = absurd (true≢false (sym t ∙ c.if-limited.false))
