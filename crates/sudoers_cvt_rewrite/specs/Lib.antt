pub mod Expand
pub mod Filter
pub mod FilterText
pub mod Count
pub mod Rewrite
pub mod Changed
pub mod internal
