pub mod Area
pub mod Ports
