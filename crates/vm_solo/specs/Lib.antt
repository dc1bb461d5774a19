pub mod View
pub mod Fits
pub mod Rounds
pub mod Playing
pub mod Ending
pub mod Played
pub mod New
pub mod Home
