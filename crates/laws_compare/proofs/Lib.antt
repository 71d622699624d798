mod SameContents
mod ListVerdicts
mod FittingRows
mod ListsWithoutSome
mod OverruledRows
mod SameEffects
mod SameGrants
mod ComputedContents
pub mod SameAtoms
mod DecidedCovers
pub mod ComputedEffects
mod NoMore
