pub mod Answers
pub mod Counts
pub mod Line
pub mod Start
pub mod Telling
