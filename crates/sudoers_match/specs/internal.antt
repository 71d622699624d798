-- Devices of the proofs. No contract of an exported function cites them.
pub mod Asked
pub mod Question
pub mod Straight
pub mod Misses
pub mod AnyUser
