pub mod Walks
pub mod Marks
pub mod Distinct
pub mod Channels
pub mod Sampled
