pub mod Passing
pub mod Held
pub mod Parts
