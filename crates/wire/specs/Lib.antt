-- Calls, events, answers and the record as plain numbers, and what is claimed of the conversions.
pub mod Flat
pub mod FromFlat
pub mod Form
pub mod Cards
pub mod Events
pub mod Refusals
pub mod Lines
pub mod Answers
pub mod Claims
