-- What the transform's parts compute, over the definitions of `reading`.
pub mod Halves
pub mod Passes
