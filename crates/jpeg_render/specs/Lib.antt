-- The picture of a frame from its block samples, in the parts that the code has.
pub mod Drawn
pub mod Rows
pub mod Mcus
pub mod Rendered
