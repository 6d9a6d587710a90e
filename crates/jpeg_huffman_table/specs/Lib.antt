pub mod Symbols
pub mod Looks
