pub mod Causes
pub mod Ends
pub mod Files
pub mod Outside
pub mod Refusing
pub mod Telling
