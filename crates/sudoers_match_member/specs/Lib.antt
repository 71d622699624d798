pub mod Class
pub mod Folded
pub mod Sets
pub mod Wildcard
pub mod Network
pub mod Hits
pub mod Moment
pub mod internal
