-- What the exported call writes.
pub mod Replay
