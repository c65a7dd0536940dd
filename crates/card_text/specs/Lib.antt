-- Numbers in fixed columns, event cards, output lines; and what is claimed of them.
pub mod Field
pub mod Columns
pub mod FiveColumns
pub mod Text
pub mod Cards
pub mod Lines
pub mod Claims
