-- Devices of the proofs. No contract of an exported function cites them.
pub mod Cursors
pub mod Found
pub mod Graph
pub mod Noting
pub mod Search
pub mod Seen
