-- The tests before the scan, and what decode takes.
pub mod Admission
pub mod Charge
