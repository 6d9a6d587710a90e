pub mod Values
pub mod Turning
