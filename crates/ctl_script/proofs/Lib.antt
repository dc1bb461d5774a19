pub mod Again
pub mod Back
pub mod Hexes
pub mod Lines
pub mod Orders
pub mod Pairs
pub mod Reread
pub mod Words
