-- What is claimed of the shift sheet, proved, and the laws that the functions' proofs use.
pub mod Totals
pub mod Text
pub mod Sheets
pub mod CardCalls
pub mod BesideLog
pub mod Examples
pub mod Written
