-- What stands here for the code's sake: contracts of inner functions cite it. Nothing of it needs to be believed by someone who reads
-- the theorems of the calls, and no module outside this folder imports it.
pub mod Fields
pub mod Places
pub mod Answers
pub mod Painted
pub mod Scans
pub mod Heads
pub mod Mcus
pub mod Coming
