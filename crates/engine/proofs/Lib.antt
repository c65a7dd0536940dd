pub mod Laws
pub mod CallsLaws
pub mod NotBefore
pub mod Turns
