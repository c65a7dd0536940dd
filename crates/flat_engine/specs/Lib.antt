-- Flat rows and records that calls in place work on.
pub mod FlatRows
