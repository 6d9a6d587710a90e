pub mod Numbers
pub mod Segments
