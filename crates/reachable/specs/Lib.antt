-- Which records set-up's calls lead to, and what is claimed of them.
pub mod Reachable
pub mod Claims
