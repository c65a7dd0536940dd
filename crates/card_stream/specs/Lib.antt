-- Cards one after the other: the session, the bytes that are read and those that are printed; and what is claimed of them.
pub mod Sessions
pub mod Partials
pub mod Reader
pub mod Feed
pub mod Claims
