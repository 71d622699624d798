-- What it means to put files in place.
use Rattle.std.specs.Prelude.{◌≡◌, ◌⊎◌, ℕ, Bool, true, false, List, [], ◌∷◌, ◌++◌, Option, Some, None}
use Rattle.std.specs.List.{AllByRecursion}
use Rattle.sudoers_place.specs.declared.change.Change.{Change}
use Rattle.sudoers_place.specs.declared.change.Content.{Content}
use Rattle.sudoers_place.specs.declared.change.Content.TheVariants.{Bytes, NoFile}
use Rattle.sudoers_place.specs.declared.change.Output.{Output}
use Rattle.sudoers_place.specs.declared.change.PlaceFault.{PlaceFault}
use Rattle.sudoers_place.specs.declared.change.PlaceFault.TheVariants.{SamePath, OutputNotKept, OutputChanged, NotWritten, NotRead, Changed, NotMoved, NotKept}
use Rattle.sudoers_place.specs.Disk.{AreDistinct, File, HasFailed, Image, SameBut, Story, file_with_access_of, free_paths}

abbrev pub paths_of : List Change → List (List ℕ)
paths_of [] = []
paths_of (change ∷ changes) = change.path.items ∷ paths_of changes

abbrev pub temps_of : List Change → List (List ℕ)
temps_of [] = []
temps_of (change ∷ changes) = change.temp.items ∷ temps_of changes

-- No path of the output, of a file or of a file that is written first comes twice.
abbrev pub AreApart : List Change → Output → Type 0
AreApart changes output = AreDistinct (output.path.items ∷ temps_of changes ++ paths_of changes)

-- ---- contents

-- this content stands there
abbrev pub HasContent : Content → Option File → Type 0
HasContent (Bytes bytes) None = ⊥
HasContent (Bytes bytes) (Some file) = file.bytes ≡ bytes.items
HasContent NoFile None = Unit {0}
HasContent NoFile (Some file) = file.bytes ≡ []

-- what this content makes of the file that is there: access stays as it is
abbrev pub file_with_content : Content → Option File → Option File
file_with_content (Bytes bytes) file = file_with_access_of bytes.items file
file_with_content NoFile file = None

abbrev pub placed_file_if : Bool → Content → Option File → Option File
placed_file_if true after file = file
placed_file_if false after file = file_with_content after file

-- what is to be where this file is
abbrev pub placed_file : Change → Option File → Option File
placed_file change file = placed_file_if change.is_done change.after file

-- ---- the promise

-- whole, what it was or what it is to be
abbrev pub IsOldOrNew : Image → Image → Image → Change → Type 0
IsOldOrNew seen before after change = (after change.path.items ≡ before change.path.items) ⊎ (after change.path.items ≡ placed_file change (seen change.path.items))

-- Each file is as it was, the output too. Only paths beside files may differ, at which nothing was seen.
abbrev pub IsAsBefore : List Change → Image → Image → Image → Type 0
IsAsBefore changes seen before after = SameBut (free_paths seen (temps_of changes)) before after

-- The output stands whole, each file is what it was or what it is to be, and all else is as it was.
pub record HasBegun (changes : List Change) (output : Output) (seen before after : Image) : Type 0 where
  pub output_stands : HasContent (Bytes output.bytes) (after output.path.items)
  pub whole : AllByRecursion (IsOldOrNew seen before after) changes
  pub others : SameBut (free_paths seen (temps_of changes) ++ paths_of changes) before after

abbrev pub IsBeforeOrBegun : List Change → Output → Image → Image → Image → Type 0
IsBeforeOrBegun changes output seen before after = IsAsBefore changes seen before after ⊎ HasBegun changes output seen before after

-- At every moment from old to new: what a reader finds, or a crash leaves, is this of what a crash before might have left.
abbrev pub AtEveryMoment : (Image → Image → Type 0) → Story → Story → Type 0
AtEveryMoment P old new = old.is_known → (c : Image) → new.left_since old.moment c → (d : Image) × old.may_leave d × P d c

-- Each crash leaves the output whole.
abbrev pub OutputStands : Output → Story → Type 0
OutputStands output new = (c : Image) → new.may_leave c → HasContent (Bytes output.bytes) (c output.path.items)

-- ---- faults

-- no file was touched
abbrev pub IsEarly : PlaceFault → Type 0
IsEarly SamePath = Unit {0}
IsEarly OutputNotKept = Unit {0}
IsEarly OutputChanged = Unit {0}
IsEarly (NotWritten number) = Unit {0}
IsEarly (NotRead number) = Unit {0}
IsEarly (Changed number) = Unit {0}
IsEarly (NotMoved number) = ⊥
IsEarly (NotKept number) = ⊥

-- one of the files has this number
abbrev pub HasNumber : ℕ → List Change → Type 0
HasNumber number [] = ⊥
HasNumber number (change ∷ changes) = (change.number ≡ number) ⊎ HasNumber number changes

-- One of the files has this number, and a call of the disk has failed.
abbrev pub HasFailedAtNumber : ℕ → List Change → Story → Story → Type 0
HasFailedAtNumber number changes old new = HasNumber number changes × HasFailed old new

-- ---- files that may be in place already

-- the same change, but for whether it is done
abbrev pub IsSameChange : Change → Change → Type 0
IsSameChange old new = new ≡ record old { is_done = new.is_done }

abbrev pub AreSameChanges : List Change → List Change → Type 0
AreSameChanges [] [] = Unit {0}
AreSameChanges [] (new ∷ news) = ⊥
AreSameChanges (old ∷ olds) [] = ⊥
AreSameChanges (old ∷ olds) (new ∷ news) = IsSameChange old new × AreSameChanges olds news

-- What stood there before the edits stands there, or what is to stand there.
abbrev pub IsBeforeOrAfter : Image → Change → Type 0
IsBeforeOrAfter seen change = HasContent change.before (seen change.path.items) ⊎ HasContent change.after (seen change.path.items)

-- One of the files with this number has neither.
abbrev pub HasOther : Image → ℕ → List Change → Type 0
HasOther seen number [] = ⊥
HasOther seen number (change ∷ changes) = ((change.number ≡ number) × (IsBeforeOrAfter seen change → ⊥)) ⊎ HasOther seen number changes

-- Each crash leaves what is to stand there, with the access of the file that was there.
pub record HasNewContent (seen : Image) (c : Image) (change : Change) : Type 0 where
  pub content : HasContent change.after (c change.path.items)
  pub access : (old new : File) → seen change.path.items ≡ Some old → c change.path.items ≡ Some new → new.access ≡ old.access

abbrev pub IsKeptInPlace : Image → Story → Change → Type 0
IsKeptInPlace seen new change = (c : Image) → new.may_leave c → HasNewContent seen c change

-- The fault has its cause: two paths are the same, the output or a file has other bytes, or a call of the disk has failed in between.
abbrev pub HasCauseOfPlacing : List Change → Output → PlaceFault → Story → Story → Type 0
HasCauseOfPlacing changes output SamePath old new = AreApart changes output → ⊥
HasCauseOfPlacing changes output OutputNotKept old new = HasFailed old new
HasCauseOfPlacing changes output OutputChanged old new = old.is_known → HasContent (Bytes output.bytes) (old.seen output.path.items) → ⊥
HasCauseOfPlacing changes output (Changed number) old new = old.is_known → HasOther old.seen number changes
HasCauseOfPlacing changes output (NotWritten number) old new = HasFailedAtNumber number changes old new
HasCauseOfPlacing changes output (NotRead number) old new = HasFailedAtNumber number changes old new
HasCauseOfPlacing changes output (NotMoved number) old new = HasFailedAtNumber number changes old new
HasCauseOfPlacing changes output (NotKept number) old new = HasFailedAtNumber number changes old new
