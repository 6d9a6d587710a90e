pub mod Cosine
