-- Devices of the proofs. No contract of an exported function cites them.
pub mod Index
pub mod Tree
pub mod Files
pub mod Walking
pub mod Pieces
pub mod Loading
pub mod Changing
pub mod KeptWalk
pub mod KeptLines
pub mod Keys
pub mod LineBits
pub mod MovedSpots
pub mod InPlace
