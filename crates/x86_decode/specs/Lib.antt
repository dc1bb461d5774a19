pub mod Index
pub mod Law
pub mod Reading
