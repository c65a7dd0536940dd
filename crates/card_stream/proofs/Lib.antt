-- What is claimed of cards one after the other, proved; and what is written of what is read.
pub mod Sessions
pub mod Reading
pub mod Printing
pub mod Bytes
pub mod Written
