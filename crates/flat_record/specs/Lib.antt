-- What a look at a flat record asks of one row.
pub mod Sound
