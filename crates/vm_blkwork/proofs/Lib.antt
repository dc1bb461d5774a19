pub mod Boards
pub mod Choosing
pub mod Fitting
pub mod Own
pub mod Putting
pub mod Seating
pub mod Sectors
pub mod Shut
