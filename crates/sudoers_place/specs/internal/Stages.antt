-- Devices of the proof, which no public contract cites: what is known of files between the steps of placing.
use Rattle.std.specs.Prelude.{◌≡◌, ℕ, Bool, true, false, List, [], ◌∷◌, ◌++◌, Option, None}
use Rattle.std.specs.List.{AllByRecursion}
use Rattle.sudoers_place.specs.declared.change.Change.{Change}
use Rattle.sudoers_place.specs.declared.change.Content.{Content}
use Rattle.sudoers_place.specs.declared.change.Content.TheVariants.{Bytes, NoFile}
use Rattle.sudoers_place.specs.Disk.{File, Image, IsWritten, SameBut, Story, file_with_access_of}
use Rattle.sudoers_place.specs.Placing.{HasContent, IsOldOrNew, paths_of, placed_file}

-- the content that has to be there before any file is touched
abbrev pub expected_content : Bool → Change → Content
expected_content true change = change.after
expected_content false change = change.before

abbrev pub IsAsExpected : Image → Change → Type 0
IsAsExpected seen change = HasContent (expected_content change.is_done change) (seen change.path.items)

-- the path beside a file before the others, if a new file is written there
abbrev pub with_temp_if_written : Bool → Content → List ℕ → List (List ℕ) → List (List ℕ)
with_temp_if_written true after temp others = others
with_temp_if_written false NoFile temp others = others
with_temp_if_written false (Bytes bytes) temp others = temp ∷ others

-- the paths beside files at which new files are written
abbrev pub written_temps : List Change → List (List ℕ)
written_temps [] = []
written_temps (change ∷ changes) = with_temp_if_written change.is_done change.after change.temp.items (written_temps changes)

abbrev pub IsFreeIf : Bool → Content → Option File → Type 0
IsFreeIf true after found = Unit {0}
IsFreeIf false NoFile found = Unit {0}
IsFreeIf false (Bytes bytes) found = found ≡ None

-- Nothing is seen where the new file is written, if one is.
abbrev pub IsFree : Image → Change → Type 0
IsFree seen change = IsFreeIf change.is_done change.after (seen change.temp.items)

-- The new file stands under the path beside it, if it is to be moved.
abbrev pub IsReadyIf : Bool → Content → Story → Change → Type 0
IsReadyIf true after story change = Unit {0}
IsReadyIf false NoFile story change = Unit {0}
IsReadyIf false (Bytes bytes) story change = IsWritten change.temp.items (file_with_access_of bytes.items (story.seen change.path.items)) story

abbrev pub IsReady : Story → Change → Type 0
IsReady story change = IsReadyIf change.is_done change.after story change

-- What is to be there is seen.
abbrev pub IsPlaced : Image → Story → Change → Type 0
IsPlaced seen story change = story.is_known → story.seen change.path.items ≡ placed_file change (seen change.path.items)

-- Some of the files are in place.
pub record ArePlacedInPart (changes : List Change) (seen before after : Image) : Type 0 where
  pub others : SameBut (written_temps changes ++ paths_of changes) before after
  pub whole : AllByRecursion (IsOldOrNew seen before after) changes

-- Each crash leaves what is to be there.
abbrev pub IsInPlace : Image → Story → Change → Type 0
IsInPlace seen new change = (c : Image) → new.may_leave c → c change.path.items ≡ placed_file change (seen change.path.items)
