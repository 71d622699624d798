pub mod Keys
pub mod NamedNumbers
