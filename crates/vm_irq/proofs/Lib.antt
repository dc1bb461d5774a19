pub mod TargetSets
