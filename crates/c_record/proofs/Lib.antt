-- Laws of the flattening.
pub mod Flattening
