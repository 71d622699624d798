-- Devices of the proofs. No contract of an exported function cites them.
pub mod Definitions
pub mod Decided
pub mod Wanted
pub mod Collected
pub mod Counted
pub mod Parts
pub mod Looped
pub mod Settings
pub mod Rights
pub mod Open
