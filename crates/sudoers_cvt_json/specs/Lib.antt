pub mod Value
pub mod Unicode
pub mod internal
