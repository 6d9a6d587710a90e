-- What the calls answer and leave, one law for each way through their tests.
pub mod Inspected
pub mod Decodes
pub mod Draws
pub mod Refiled
pub mod SettledCode
