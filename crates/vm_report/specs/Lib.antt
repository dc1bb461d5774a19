pub mod PlanText
pub mod Report
pub mod StateText
