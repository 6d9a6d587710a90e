pub mod Refiled
