pub mod Puts
pub mod Steps
pub mod Join
pub mod Pass
pub mod Engines
