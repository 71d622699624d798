-- Devices of the proofs. No contract of an exported function cites them.
pub mod Extended
pub mod FilterSeen
pub mod Marked
pub mod Matcher
pub mod Pruned
pub mod SameNames
pub mod Selected
pub mod Values
pub mod Written
