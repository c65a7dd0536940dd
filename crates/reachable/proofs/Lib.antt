pub mod Numbers
pub mod Rows
pub mod Records
pub mod Calls
pub mod Refused
pub mod Reached
