pub mod Chain
pub mod Mentioned
pub mod Chains
pub mod Led
pub mod Report
pub mod Numbers
pub mod Places
pub mod internal
