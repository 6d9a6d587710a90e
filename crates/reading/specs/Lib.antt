-- The rules as definitions, in the order in which they build on each other.
pub mod Tests
pub mod Reader
pub mod Bits
pub mod Huffman
pub mod Block
pub mod Transform
pub mod Layout
pub mod Colour
pub mod Tables
pub mod Header
pub mod Scan
pub mod Reading
pub mod Settled
pub mod Verdicts
pub mod Judging
pub mod Calls
pub mod Prices
pub mod Files
pub mod Words
pub mod Comments
pub mod Bench
-- no rule: what contracts of inner functions cite
pub mod Code
