pub mod Assembly
pub mod Directive
pub mod Disassembly
pub mod Law
pub mod Layout
pub mod Line
pub mod Statement
pub mod Workload
