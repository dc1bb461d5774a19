pub mod Queue
pub mod Register
pub mod Window
