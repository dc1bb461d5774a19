pub mod Fixed
pub mod Reader
