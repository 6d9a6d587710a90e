-- Pixels in colour whose chroma samples serve two each; and what the chroma samples add to luma.
pub mod Tinted
pub mod Parts
