pub mod Onward
pub mod Samples
pub mod Ends
pub mod OneMcu
pub mod McuFollowed
pub mod AllMcus
pub mod ScanFollowed
