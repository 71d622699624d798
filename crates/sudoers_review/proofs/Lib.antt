pub mod ChangesTexts
mod OverruledRows
mod RowTexts
mod SettingLines
pub mod ShownRows
pub mod SilentChanges
mod SilentGrants
