pub mod Sound
pub mod ReadAs
pub mod Expanded
pub mod Converted
pub mod SameText
pub mod WayBack
