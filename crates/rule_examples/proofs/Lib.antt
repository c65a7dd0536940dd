-- The claims of the lists, by computation.
pub mod Lists
