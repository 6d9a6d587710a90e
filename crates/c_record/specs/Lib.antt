-- The record as numbers, and the one by which decode is asked.
pub mod Flat
pub mod Asked
