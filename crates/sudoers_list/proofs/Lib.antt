pub mod Known
pub mod Passing
pub mod Speaking
pub mod TagsSaid
pub mod Going
pub mod Ruled
mod OneReason
