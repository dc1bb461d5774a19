pub mod Chair
pub mod Crew
pub mod New
pub mod Seats
