-- The calls in the parts that the code has.
pub mod Steps
pub mod Meets
