pub mod Highest
pub mod Bits
pub mod FourWords
