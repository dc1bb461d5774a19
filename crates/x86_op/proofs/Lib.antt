pub mod Passed
pub mod Extended
pub mod Bounds
