pub mod Chains
pub mod Done
pub mod Leaves
pub mod Stores
