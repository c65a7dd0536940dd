-- The shift sheet, and what is claimed of it.
pub mod Sheet
pub mod Claims
pub mod CardCalls
pub mod Examples
pub mod Printed
