-- What the functions that the programs share say.
pub mod Read
pub mod Lines
pub mod Answers
pub mod Faults
pub mod Numbers
