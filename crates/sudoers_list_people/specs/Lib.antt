pub mod Rows
pub mod People
pub mod Person
pub mod Asked
pub mod internal
