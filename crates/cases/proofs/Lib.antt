pub mod EndedLines
pub mod FileChanges
pub mod WholeLines
