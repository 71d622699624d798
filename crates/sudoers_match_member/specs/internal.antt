-- Devices of the proofs. No contract of an exported function cites them.
pub mod Count
pub mod Known
pub mod LookedUp
pub mod Places
pub mod Run
pub mod Seen
pub mod Unclosed
