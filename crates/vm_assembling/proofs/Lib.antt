pub mod Assemblies
pub mod FileReads
