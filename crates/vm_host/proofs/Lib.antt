mod FailedNames
pub mod Frames
pub mod GivenBack
pub mod Pasts
pub mod Pieces
pub mod Sectors
pub mod Unwritten
