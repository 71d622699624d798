pub mod FewestAliases
