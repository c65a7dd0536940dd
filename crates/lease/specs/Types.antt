-- The types of sets (rule 2), the clock (rule 3), readings and timers (rule 4), as clauses about the lease manager cite them.
pub use Rattle.bitmap.specs.declared.Bitmap.{Bitmap}
pub use Rattle.drift.specs.declared.Clock.{Clock}
pub use Rattle.drift.specs.declared.Clock.TheVariants.{True, Drifting}
pub use Rattle.timer.specs.declared.Reading.{Reading}
pub use Rattle.timer.specs.declared.Timer.{Timer}
pub use Rattle.timer.specs.declared.Timer.TheVariants.{Unarmed, Armed, Exploded}
