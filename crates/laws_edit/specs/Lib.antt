pub mod MayChange
pub mod MemberEdits
pub mod Pruned
