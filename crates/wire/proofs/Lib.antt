-- The proofs of the claims, and of what an array's `map` gives.
pub mod Rows
pub mod FlatLaws
pub mod Percent
pub mod CardEventsLaws
