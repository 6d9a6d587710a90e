-- Pixels written into a buffer, and a run of them.
pub mod Drawn
pub mod Runs
