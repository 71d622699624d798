pub mod Same
pub mod Outcome
pub mod Users
pub mod Why
pub mod internal
