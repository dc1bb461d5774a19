pub mod Noted
pub mod Keeps
pub mod KeepsDone
