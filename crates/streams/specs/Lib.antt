-- What is written where writing may fail.
pub mod Streams
