pub mod Values
pub mod Stepping
pub mod Looking
pub mod Going
pub mod Hearing
pub mod Opening
