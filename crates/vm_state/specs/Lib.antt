pub mod Machine
pub mod Requests
pub mod State
pub mod View
pub mod Script
pub mod Sound
pub mod Start
pub mod Lending
