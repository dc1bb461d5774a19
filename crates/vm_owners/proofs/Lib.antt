pub mod Stages
pub mod Owning
pub mod Turning
