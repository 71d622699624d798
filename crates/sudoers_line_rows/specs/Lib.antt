pub mod Tables
pub mod Counts
pub mod View
pub mod Alike
