-- A disk in memory: the log of all that was done to it. What stands under a path is what the last entry of the path says.
use Rattle.std.specs.Prelude.{◌≡◌, ◌≤◌, ℕ, List, [], ◌∷◌, length, take, Option, Some, None, if◌then◌else◌}
use Rattle.std.specs.Str.{bytes_eq}
use Rattle.std.proofs.Common.{sym, ◌∙◌, ap, le_refl}
use Rattle.std.proofs.lemmas.List.{take_all}
use Rattle.sudoers_place.specs.declared.memory.Entry.{Entry}
use Rattle.sudoers_place.specs.declared.memory.StoredFile.{StoredFile}
use Rattle.sudoers_place.specs.Disk.{File, Image, IsStep, Story}

abbrev pub file_of : StoredFile → File
file_of stored = record { bytes = stored.bytes.items; access = record { owner = stored.owner; group = stored.group; mode = stored.mode } }

abbrev pub file_if : Option StoredFile → Option File
file_if None = None
file_if (Some stored) = Some (file_of stored)

abbrev pub look : List Entry → List ℕ → Option File → Option File
look [] path was = was
look (entry ∷ log) path was = look log path (if bytes_eq entry.path.items path then file_if entry.file else was)

abbrev pub image_of : List Entry → Image
image_of log path = look log path None

-- Each call is done at once, so a crash leaves what is seen. Each beginning of the log is a past moment.
abbrev pub story_of : List Entry → ℕ → Story
story_of log failures = record {
  is_known = Unit {0};
  seen = image_of log;
  may_leave = λ c. (path : List ℕ) → c path ≡ image_of log path;
  is_synced = λ path. Unit {0};
  moment = length log;
  left_since = λ t c. (k : ℕ) × (t ≤ k) × (k ≤ length log) × ((path : List ℕ) → c path ≡ image_of (take k log) path);
  failures = failures;
}

-- The log goes on by this step, whatever the counts of failures are.
abbrev pub LogGoesOn : (Image → Image → Type 0) → List Entry → List Entry → Type 0
LogGoesOn step old new = (n m : ℕ) → IsStep step (story_of old n) (story_of new m)

pub counts : (log : List Entry) (t : ℕ) (c : Image) → t ≤ length log → ((path : List ℕ) → c path ≡ image_of log path) → (k : ℕ) × (t ≤ k) × (k ≤ length log) × ((path : List ℕ) → c path ≡ image_of (take k log) path)
counts log t c le now = (length log, le, le_refl (length log), λ path. now path ∙ ap (λ (l : List Entry). image_of l path) (sym (take_all (length log) log (le_refl (length log)))))

pub only : (log : List Entry) (c : Image) → ((k : ℕ) × (length log ≤ k) × (k ≤ length log) × ((path : List ℕ) → c path ≡ image_of (take k log) path)) → (path : List ℕ) → c path ≡ image_of log path
only log c left path = left.3 path ∙ ap (λ (l : List Entry). image_of l path) (take_all left.0 log left.1)
