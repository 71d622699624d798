pub mod Bundle
pub mod internal
