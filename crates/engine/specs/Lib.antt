pub mod Fits
pub mod Due
pub mod Turns
