pub mod Config
pub mod Line
pub mod Lines
pub mod Values
