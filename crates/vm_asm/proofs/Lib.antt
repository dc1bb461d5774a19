pub mod Again
pub mod Pieces
pub mod Shortness
pub mod Sound
pub mod Steps
