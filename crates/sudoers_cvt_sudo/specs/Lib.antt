pub mod Quotes
pub mod Names
pub mod Printed
