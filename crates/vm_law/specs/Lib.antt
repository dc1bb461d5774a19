pub mod BitSet
pub mod CpuSet
pub mod Image
pub mod Memory
pub mod Seq
