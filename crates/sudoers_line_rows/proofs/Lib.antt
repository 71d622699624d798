pub mod Growth
pub mod CutBack
pub mod LastRow
pub mod WalkLaws
