pub mod Walking
pub mod Prefix
pub mod Agreeing
pub mod Looking
pub mod Sharing
pub mod Laying
pub mod Entries
pub mod Meeting
