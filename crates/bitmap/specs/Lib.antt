-- Sets of ids as numbers, bitmaps over them, what each call answers and by which number it refuses, and what is claimed of all that.
pub mod Sets
pub mod Bitmaps
pub mod Operations
pub mod Numbers
pub mod Tests
pub mod Claims
pub mod Examples
