-- The rules of the lease manager, and the definitions of the leaves that they speak of.
pub use Rattle.bitmap.specs.Sets
pub use Rattle.bitmap.specs.Bitmaps
pub use Rattle.bitmap.specs.Operations
pub use Rattle.drift.specs.Drift
pub use Rattle.drift.specs.Clocks
pub use Rattle.drift.specs.declared.Clock.TheVariants as ClockCases
pub use Rattle.timer.specs.Timers
pub mod Types
pub mod Tables
pub mod Rows
pub mod Handlers
pub mod Pass
pub mod Passes
pub mod Notices
pub mod Fired
pub mod Calls
pub mod Limits
pub mod RecordCheck
pub mod Refusals
pub mod Numbers
pub mod SetUp
pub mod Rules
pub mod FiredClaims
pub mod LeftClaims
pub mod Verdicts
pub mod RuleClaims
pub mod Shorthands
