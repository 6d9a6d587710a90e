-- Laws that belong to no one function.
pub mod Tinting
pub mod Paired
