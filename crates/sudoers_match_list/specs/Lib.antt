pub mod Flat
pub mod Cycle
pub mod Search
pub mod Flattened
pub mod Alike
pub mod internal
