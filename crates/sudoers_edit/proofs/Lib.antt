mod Common
mod AlikeLemmas
mod ChangedLemmas
mod ExtentLemmas
mod EditLemmas
mod LastLemmas
mod MemberMore
mod MoreLemmas
mod PlaceLemmas
mod PolicyLemmas
pub mod RenameLemmas
mod ReplacedLemmas
mod SeamLemmas
mod StartLemmas
mod AbsentNames
mod DraftLemmas
mod SpliceLemmas
mod WayBackLemmas
mod WithinLemmas
mod RunEnds
mod FormEnds
mod TokenEnds
mod LineTokens
pub mod DefEnds
mod DefinedNames
pub mod NameFree
pub mod NameGone
pub mod NameParts
mod NameStarts
mod OwnedBytes
mod PutNames
pub mod RenamedNames
pub mod RenamedOnce
pub mod RenamedPolicy
mod RenamedTexts
pub mod Whole
pub mod WithoutLine
pub mod DropDef
pub mod AcceptedLines
pub mod AcceptedSplices
pub mod BackLemmas
pub mod DefLemmas
pub mod EndLemmas
pub mod HistoryLemmas
pub mod InverseLaw
pub mod JournalLemmas
pub mod KnownLemmas
pub mod LandLemmas
pub mod LineLemmas
pub mod LoadFaults
pub mod MemberLemmas
pub mod MemoryLemmas
pub mod MoveLemmas
pub mod NameLemmas
pub mod NamedLaw
pub mod PayloadLaw
pub mod PruneCut
pub mod PruneDone
pub mod PruneFalls
pub mod PruneGoes
pub mod PruneList
pub mod PruneLists
pub mod PruneOrder
pub mod PruneOut
pub mod PrunePlaces
pub mod PrunePut
pub mod PruneRefused
pub mod PruneSort
pub mod PruneWalk
pub mod PrunedAlike
pub mod PrunedStage
pub mod PrunedSteps
pub mod PrunedWalk
pub mod RedoLemmas
pub mod RemovalNumbers
pub mod RenameCovers
pub mod RenameFiles
pub mod RenameLeads
pub mod RenameLines
pub mod RenameLong
pub mod RenameOutcomes
pub mod RenameReadings
pub mod RenameSizes
pub mod RenameSwaps
pub mod ReplaceLemmas
pub mod SoundFiles
pub mod SpotLemmas
pub mod SwapLemmas
pub mod UndoneLemmas
pub mod PlanLemmas
pub mod LinesBelow
pub mod FilesBelow
pub mod LawsBelow
pub mod LawsApplied
pub mod PlainRuns
pub mod PlainFound
pub mod TokensBefore
pub mod TokensBehind
pub mod TokenFronts
pub mod FrontLists
pub mod TokenCuts
pub mod AliasHeads
pub mod InnerCuts
pub mod PlainLines
pub mod AlikeItems
pub mod ItemStops
pub mod CutLines
pub mod PlainCuts
pub mod SureCuts
pub mod LineCutLemmas
pub mod LastCutLines
pub mod TokenGains
pub mod GainLines
pub mod GainItems
pub mod WordSplices
pub mod SurePuts
