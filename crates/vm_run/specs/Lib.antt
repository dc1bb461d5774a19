pub mod Answer
pub mod Refusing
pub mod Showing
pub mod Words
pub mod Works
