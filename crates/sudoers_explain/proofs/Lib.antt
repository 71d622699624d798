pub mod LaterFaults
pub mod Blanks
pub mod FaultsWithin
