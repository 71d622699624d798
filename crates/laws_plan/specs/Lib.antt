pub mod AliasesOfUser
