pub mod BitSets
pub mod Numbers
