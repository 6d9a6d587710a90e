pub mod Digits
pub mod Filled
pub mod SheetFilled
pub mod Sureness
