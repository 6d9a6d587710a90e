pub mod Steps
pub mod Remaining
