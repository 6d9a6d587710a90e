-- Laws that belong to no one function.
pub mod Digits
pub mod Behind
pub mod Lines
pub mod Listed
pub mod Inline
