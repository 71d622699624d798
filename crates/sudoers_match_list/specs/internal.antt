-- Devices of the proofs. No contract of an exported function cites them.
pub mod Parts
pub mod Roots
pub mod Shortcuts
