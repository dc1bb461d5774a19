pub mod Messages
pub mod Timers
pub mod Ports
pub mod Windows
