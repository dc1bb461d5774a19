pub mod Table
pub mod Turns
pub mod Choosing
pub mod View
pub mod Tally
pub mod History
pub mod Rounds
