pub mod Requests
pub mod Queueing
pub mod Moving
pub mod Images
