pub mod History
pub mod Known
pub mod Rule
pub mod Seat
pub mod View
