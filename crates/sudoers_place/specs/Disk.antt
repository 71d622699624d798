-- What stands on a disk, what a crash may leave of it, and what a call may change.
use Rattle.std.specs.Prelude.{◌≡◌, ◌≢◌, ◌≤◌, ◌⊎◌, ◌↔◌, ℕ, ◌+◌, ◌-◌, ◌^◌, min, List, [], ◌∷◌, Option, Some, None, Vec}
use Rattle.std.specs.declared.alloc.Global.{Global}

-- who owns a file, and who may do what with it
pub record Access : Type 0 where
  pub owner : ℕ
  pub group : ℕ
  pub mode : ℕ

-- a file, whole
pub record File : Type 0 where
  pub bytes : List ℕ
  pub access : Access

-- the file under each path, or `None`
abbrev pub Image : Type 0
Image = List ℕ → Option File

-- All that contracts know of a disk.
pub record Story : Type 1 where
  -- What the calls say of files holds. Of the disk of a system this is not known.
  pub is_known : Type 0
  -- what a reader finds
  pub seen : Image
  -- what a crash at this moment may leave
  pub may_leave : Image → Type 0
  -- the bytes of the file that is seen under this path are on the disk, even where the name may not be
  pub is_synced : List ℕ → Type 0
  -- a number that does not fall
  pub moment : ℕ
  -- what a reader at some moment from that one on might have found, or a crash left, during a call or between two
  pub left_since : ℕ → Image → Type 0
  -- how often a call failed; the count stops at the greatest number of 64 bits
  pub failures : ℕ

-- ---- paths

-- the path is not among these
abbrev pub IsNotIn : List ℕ → List (List ℕ) → Type 0
IsNotIn path [] = Unit {0}
IsNotIn path (other ∷ others) = (path ≢ other) × IsNotIn path others

-- no path comes twice
abbrev pub AreDistinct : List (List ℕ) → Type 0
AreDistinct [] = Unit {0}
AreDistinct (path ∷ paths) = IsNotIn path paths × AreDistinct paths

-- the path before the others, if no file is under it
abbrev pub with_path_if_free : Option File → List ℕ → List (List ℕ) → List (List ℕ)
with_path_if_free None path others = path ∷ others
with_path_if_free (Some file) path others = others

-- those of the paths under which no file is seen
abbrev pub free_paths : Image → List (List ℕ) → List (List ℕ)
free_paths seen [] = []
free_paths seen (path ∷ paths) = with_path_if_free (seen path) path (free_paths seen paths)

-- ---- steps of a disk

-- The same files stand under all paths but these, of which nothing is said.
abbrev pub SameBut : List (List ℕ) → Image → Image → Type 0
SameBut paths before after = (path : List ℕ) → IsNotIn path paths → after path ≡ before path

-- Each file that is seen stays, but for those under these paths.
abbrev pub SameWhereSeen : List (List ℕ) → Image → Image → Image → Type 0
SameWhereSeen paths seen before after = (path : List ℕ) (file : File) → IsNotIn path paths → seen path ≡ Some file → after path ≡ before path

-- One path has what it had, or this file instead. Of the others among these paths nothing is said.
pub record IsReplacedOrNot (paths : List (List ℕ)) (path : List ℕ) (file : Option File) (before after : Image) : Type 0 where
  pub others : SameBut paths before after
  pub whole : (after path ≡ before path) ⊎ (after path ≡ file)

-- What is seen now, or what a crash may leave now or at a moment on the way, is what there was before, changed by this step. What might
-- have been left before is not forgotten.
pub record IsStep (step : Image → Image → Type 0) (before after : Story) : Type 0 where
  pub later : before.moment ≤ after.moment
  pub shown : step before.seen after.seen
  pub leaves : (c : Image) → after.may_leave c → (d : Image) × before.may_leave d × step d c
  pub since : (t : ℕ) (c : Image) → t ≤ before.moment → after.left_since t c → before.left_since t c ⊎ ((d : Image) × before.may_leave d × step d c)
  pub keeps : (t : ℕ) (c : Image) → t ≤ before.moment → before.left_since t c → after.left_since t c

-- Time goes on by a step.
pub record GoesOn (step : Image → Image → Type 0) (before after : Story) : Type 0 where
  pub known : before.is_known ↔ after.is_known
  pub counted : before.failures ≤ after.failures
  pub is_step : before.is_known → IsStep step before after

-- What was synced under other paths stays so.
abbrev pub KeepsSynced : List (List ℕ) → Story → Story → Type 0
KeepsSynced paths before after = (path : List ℕ) → IsNotIn path paths → before.is_known → before.is_synced path → after.is_synced path

-- a count rose, or is the greatest that it can be
abbrev pub HasRisen : ℕ → ℕ → Type 0
HasRisen before after = min (before + 1) (2 ^ 64 - 1) ≤ after

-- A call has failed in between.
abbrev pub HasFailed : Story → Story → Type 0
HasFailed before after = HasRisen before.failures after.failures

-- ---- what is on a disk

-- This is seen under this path, and its bytes are on the disk, even where the name may not be.
pub record IsSeenAndSynced (path : List ℕ) (file : Option File) (story : Story) : Type 0 where
  pub seen : story.seen path ≡ file
  pub synced : story.is_synced path

abbrev pub IsWritten : List ℕ → Option File → Story → Type 0
IsWritten path file story = story.is_known → IsSeenAndSynced path file story

-- Each crash leaves this under this path.
abbrev pub Stands : List ℕ → Option File → Story → Type 0
Stands path file story = story.is_known → (c : Image) → story.may_leave c → c path ≡ file

-- these are the bytes of the file, if there is one
abbrev pub AreBytesOf : Option (Vec ℕ Global) → Option File → Type 0
AreBytesOf None None = Unit {0}
AreBytesOf None (Some file) = ⊥
AreBytesOf (Some bytes) None = ⊥
AreBytesOf (Some bytes) (Some file) = bytes.items ≡ file.bytes

-- root owns it, and root and his group may read it
abbrev pub access_of_root : Access
access_of_root = record { owner = 0; group = 0; mode = 288 }

abbrev pub access_of_file : Option File → Access
access_of_file None = access_of_root
access_of_file (Some file) = file.access

-- a file with these bytes and the access of another
abbrev pub file_with_access_of : List ℕ → Option File → Option File
file_with_access_of bytes like = Some (record { bytes = bytes; access = access_of_file like })

-- ---- a disk of which nothing is known

-- what contracts know of the disk of a system: how often a call failed
abbrev pub unknown_story : ℕ → Story
unknown_story failures = record {
  is_known = ⊥;
  seen = λ path. None;
  may_leave = λ c. Unit {0};
  is_synced = λ path. Unit {0};
  moment = 0;
  left_since = λ t c. Unit {0};
  failures = failures;
}
