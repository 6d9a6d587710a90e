pub mod Filling
pub mod Words
pub mod Coming
pub mod Ending
pub mod Meanings
pub mod Meeting
