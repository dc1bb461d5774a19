pub mod Fits
pub mod Others
pub mod Outside
pub mod Turn
pub mod View
