pub mod Plans
pub mod Marks
