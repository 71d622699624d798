-- Devices of the proofs. No contract of an exported function cites them.
pub mod Answer
pub mod Cursor
pub mod Source
