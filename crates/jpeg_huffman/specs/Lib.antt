-- What the code says of a table's counts, for a list of any length.
pub mod Fitting
