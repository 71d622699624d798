pub mod Requests
pub mod Parts
pub mod Outcomes
pub mod Ready
