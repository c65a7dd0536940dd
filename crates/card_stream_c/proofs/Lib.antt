-- What the exported call needs.
pub mod Replay
