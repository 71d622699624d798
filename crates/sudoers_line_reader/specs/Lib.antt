pub mod Reader
pub mod Descent
pub mod Outcome
pub mod internal
