-- The calls from the host, what is claimed of them, and lists of them.
pub mod Calls
pub mod Claims
pub mod History
pub mod Numbers
