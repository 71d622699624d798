-- Devices of the proofs. No contract of an exported function cites them.
pub mod Causes
pub mod Stages
