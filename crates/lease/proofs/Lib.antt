-- Why the claims of the rules hold, and what proofs above use of them.
pub mod Tests
pub mod RecordCheck
pub mod Tables
pub mod Judged
pub mod NumbersLemmas
pub mod FiredOrder
pub mod Due
pub mod Fired
pub mod Left
pub mod RuleClaims
pub mod Computing
