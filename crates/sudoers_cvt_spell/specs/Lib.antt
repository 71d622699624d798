pub mod Spelling
pub mod Hosts
pub mod Members
pub mod Commands
pub mod Parameters
pub mod Lines
pub mod internal
