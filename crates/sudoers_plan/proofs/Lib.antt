pub mod MarkedDefinitions
pub mod NothingWanted
pub mod Numbers
pub mod PlanOutcomes
pub mod UserAliases
pub mod UserEdits
pub mod UserMet
