pub mod Run
pub mod Looking
