-- The basis, and what its entries are nearest to.
pub mod Basis
pub mod Cosine
