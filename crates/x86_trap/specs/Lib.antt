pub mod Delivery
pub mod Frame
pub mod Gate
