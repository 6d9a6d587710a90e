pub mod Bytes
pub mod Propers
pub mod Closings
pub mod Symbols
