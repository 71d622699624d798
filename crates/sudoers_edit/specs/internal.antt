-- Devices of the proofs. No contract of an exported function cites them.
pub mod ChangeLaws
pub mod Drafts
pub mod EditLaws
pub mod LastLine
pub mod Leading
pub mod LeadingInFile
pub mod LineCuts
pub mod Made
pub mod NameOffsets
pub mod OneMore
pub mod Plain
pub mod PruneLaws
pub mod PruneOrder
pub mod RenameLaws
pub mod Splicing
pub mod Undone
pub mod UndoneLines
