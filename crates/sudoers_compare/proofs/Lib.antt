mod Chains
mod EqualContents
mod FlatCommands
mod FlatSettings
pub mod FoundRows
mod KeptLists
mod KeptMembers
mod KnownLists
mod ListBits
mod MarkedRows
mod MemberIndexes
mod NextNumbers
mod PlacedRows
mod SameMembers
pub mod SameRows
mod SameSettings
