-- Devices of the proofs. No contract of an exported function cites them.
pub mod Clear
pub mod Left
pub mod Mode
pub mod Plain
pub mod Reached
pub mod Run
