pub mod Register
pub mod Saved
pub mod Uart
