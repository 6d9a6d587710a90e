-- Theorems about the transform, and laws that belong to no one function.
pub mod Lines
pub mod Stores
pub mod Passes
pub mod Coefficients
pub mod Within53
