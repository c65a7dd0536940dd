-- The proofs of the claims.
pub mod Claims
