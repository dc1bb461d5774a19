pub mod Enter
pub mod Slice
pub mod Spending
pub mod Routing
pub mod Step
