mod ListsByTests
mod TurningAtoms
mod Sways
mod Places
mod ListingsByTests
mod Decided
mod DefaultsByTests
mod RowPartsByTests
mod AnswersByTests
pub mod Deciding
pub mod DefinitionLines
pub mod Collecting
pub mod Asking
pub mod Origins
pub mod Standings
pub mod Counting
pub mod AddedLists
pub mod RowCounts
mod CommandAtoms
pub mod RowNames
pub mod RowSteps
pub mod Loops
pub mod SettingCounts
pub mod Listed
mod SpecLines
mod UserAndHostLists
mod ScopeLists
mod RightsLists
mod OpenMembers
mod ClosedAnswers
