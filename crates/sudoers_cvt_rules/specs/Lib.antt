pub mod Effective
pub mod Rules
pub mod Rule
pub mod Fault
pub mod internal
