-- What is claimed of columns, cards and lines, proved, and the laws that the functions' proofs use.
pub mod Text
pub mod Numbers
pub mod Parts
pub mod FiveColumns
pub mod Newlines
pub mod Cards
pub mod LineText
pub mod Lines
pub mod Fields
pub mod Places
pub mod Pairs
