-- What the program says to a file.
pub mod Answer
