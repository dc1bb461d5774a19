pub mod Vectors
pub mod Words
