-- Devices of the proof, which no public contract cites: the causes of faults, where it is known which files are in place already.
use Rattle.std.specs.Prelude.{◌≡◌, ◌⊎◌, ℕ, List, [], ◌∷◌}
use Rattle.sudoers_place.specs.declared.change.Change.{Change}
use Rattle.sudoers_place.specs.declared.change.Content.TheVariants.{Bytes}
use Rattle.sudoers_place.specs.declared.change.Output.{Output}
use Rattle.sudoers_place.specs.declared.change.PlaceFault.{PlaceFault}
use Rattle.sudoers_place.specs.declared.change.PlaceFault.TheVariants.{SamePath, OutputNotKept, OutputChanged, NotWritten, NotRead, Changed, NotMoved, NotKept}
use Rattle.sudoers_place.specs.Disk.{HasFailed, Image, Story}
use Rattle.sudoers_place.specs.Placing.{HasContent, HasFailedAtNumber}
use Rattle.sudoers_place.specs.internal.Stages.{IsAsExpected}

-- One of the files with this number is not as expected.
abbrev pub HasUnexpected : Image → ℕ → List Change → Type 0
HasUnexpected seen number [] = ⊥
HasUnexpected seen number (change ∷ changes) = ((change.number ≡ number) × (IsAsExpected seen change → ⊥)) ⊎ HasUnexpected seen number changes

-- A fault of a file has its cause: the file has other bytes, or the disk has failed.
abbrev pub HasCauseInFiles : List Change → PlaceFault → Story → Story → Type 0
HasCauseInFiles changes SamePath old new = ⊥
HasCauseInFiles changes OutputNotKept old new = ⊥
HasCauseInFiles changes OutputChanged old new = ⊥
HasCauseInFiles changes (Changed number) old new = old.is_known → HasUnexpected old.seen number changes
HasCauseInFiles changes (NotWritten number) old new = HasFailedAtNumber number changes old new
HasCauseInFiles changes (NotRead number) old new = HasFailedAtNumber number changes old new
HasCauseInFiles changes (NotMoved number) old new = HasFailedAtNumber number changes old new
HasCauseInFiles changes (NotKept number) old new = HasFailedAtNumber number changes old new

-- A fault has its cause: the output or a file has other bytes, or the disk has failed.
abbrev pub HasCause : List Change → Output → PlaceFault → Story → Story → Type 0
HasCause changes output OutputNotKept old new = HasFailed old new
HasCause changes output OutputChanged old new = old.is_known → HasContent (Bytes output.bytes) (old.seen output.path.items) → ⊥
HasCause changes output fault old new = HasCauseInFiles changes fault old new
