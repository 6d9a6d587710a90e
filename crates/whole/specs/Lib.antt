-- The definitions and laws that other crates cite.
pub mod Ring
pub mod Order
pub mod Lists
pub mod Signs
pub mod Expressions
pub mod Powers
pub mod Held
pub mod Tests
