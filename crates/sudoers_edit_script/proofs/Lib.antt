mod CommandLemmas
pub mod EndLemmas
mod FileLemmas
pub mod FrontLemmas
mod LineLemmas
mod NumberLemmas
mod OneSpelling
mod PayloadLemmas
mod PhysicalLemmas
mod ReadingLemmas
mod SayLemmas
pub mod ScriptLemmas
mod SpellingLemmas
mod StepLemmas
mod StopLemmas
mod TakenLemmas
mod ToldLemmas
mod WholeLines
mod WordLemmas
mod WritingLemmas
