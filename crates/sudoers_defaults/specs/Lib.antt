pub mod Numbers
pub mod Values
pub mod Parameter
pub mod Refused
