pub mod Lists
pub mod Loaded
pub mod Pages
pub mod Standing
pub mod Views
pub mod Written
