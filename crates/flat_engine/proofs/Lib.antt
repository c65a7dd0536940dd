-- A flat record with other fields, and flat rows under a pass; the pass that a higher number asks for; a record that refusal 15 lets through fits.
pub mod Laws
pub mod ClearingTurn
pub mod Sound
