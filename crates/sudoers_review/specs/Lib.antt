pub mod ChangedText
pub mod Faults
pub mod LineEnd
pub mod OverruledText
pub mod RowText
pub mod RowViews
pub mod Undecided
pub mod Views
