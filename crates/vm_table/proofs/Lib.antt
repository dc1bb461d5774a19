pub mod Keeps
pub mod Firsts
pub mod PlanParts
pub mod Plan
pub mod Looking
pub mod Stages
pub mod Resting
