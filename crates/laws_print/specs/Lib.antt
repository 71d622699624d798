pub mod Writable
pub mod Same
pub mod Readable
