pub mod Blanks
pub mod FirstWord
pub mod Places
