-- The tests of one look at a row, and of the rows, put into the order of the definitions.
pub mod RowTests
