pub mod Engines
pub mod Between
