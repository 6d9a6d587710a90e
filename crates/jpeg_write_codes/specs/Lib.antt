pub mod Words
pub mod Sheets
