pub mod Laws
pub mod Rows
pub mod Serving
pub mod Walks
