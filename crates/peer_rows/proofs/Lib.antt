-- Clearing and its examples, and the list of fired timers: a timer's place, sorting, both sides.
pub mod ClearingClaims
pub mod ClearingExamples
pub mod Place
pub mod Put
pub mod Sorting
pub mod Sides
pub mod Either
pub mod Turn
pub mod NoneDue
pub mod NotBefore
