pub mod Counting
pub mod Following
pub mod Between
pub mod Plainly
pub mod Widely
