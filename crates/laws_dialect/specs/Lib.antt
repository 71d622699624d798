pub mod Slashed
pub mod ReadLines
