pub mod Runs
pub mod Fronts
