pub mod Passing
pub mod SaidWhole
pub mod Limits
