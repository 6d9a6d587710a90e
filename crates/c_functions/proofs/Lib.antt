-- Decode by numbers that are no record's.
pub mod NoRecord
