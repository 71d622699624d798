pub mod ExpectedPieces
pub mod ShownRow
