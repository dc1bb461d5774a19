pub mod Fits
pub mod Going
pub mod Outside
pub mod Turn
