-- What the colours' parts compute, over the definitions of `reading`.
pub mod Parts
