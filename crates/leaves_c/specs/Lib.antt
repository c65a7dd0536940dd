-- How answers cross to C.
pub mod Flat
