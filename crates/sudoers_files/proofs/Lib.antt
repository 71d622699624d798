pub mod Ordered
pub mod Kept
pub mod Fronts
pub mod Visited
pub mod Gathered
pub mod Keeping
pub mod Settling
pub mod ReadingLemmas
