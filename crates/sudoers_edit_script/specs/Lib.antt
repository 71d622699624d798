pub mod Physical
pub mod Script
pub mod ScriptReading
pub mod internal
