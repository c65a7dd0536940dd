-- The lists of examples of the rules, and the claim of each.
pub mod Asks
pub mod Worked
pub mod Mistakes
pub mod Edges
pub mod Branches
pub mod Firing
