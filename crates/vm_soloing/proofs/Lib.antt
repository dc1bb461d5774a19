pub mod Closings
pub mod Crews
pub mod Doubts
pub mod Moving
pub mod Plans
pub mod ReadOnly
mod Rights
mod RightsParts
pub mod Runs
pub mod Solos
