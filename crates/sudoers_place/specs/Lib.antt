pub mod Disk
pub mod Placing
pub mod Memory
pub mod internal
