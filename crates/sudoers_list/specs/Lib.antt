pub mod Listing
pub mod Rule
pub mod Inner
pub mod Reason
pub mod internal
