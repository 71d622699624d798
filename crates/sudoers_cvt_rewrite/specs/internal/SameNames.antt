-- A device of the proof, which no public contract cites: names that are the same, letter case ignored.
use Rattle.std.specs.Prelude.{◌≡◌, ℕ, Bool, List}
use Rattle.std.specs.List.{list_any}
use Rattle.std.specs.Str.{bytes_eq, str_to_ascii_lowercase}

-- The test tells no two names apart that are the same, letter case ignored.
abbrev pub IsTestIgnoringCase : (List ℕ → Bool) → Type 0
IsTestIgnoringCase test = (name other : List ℕ) → str_to_ascii_lowercase name ≡ str_to_ascii_lowercase other → test name ≡ test other

-- Such a test holds of a name of both or of neither.
abbrev pub AreSameNamesIgnoringCase : List (List ℕ) → List (List ℕ) → Type 0
AreSameNamesIgnoringCase names values = (test : List ℕ → Bool) → IsTestIgnoringCase test → list_any test names ≡ list_any test values

-- The name, in lower case, is one of these.
abbrev pub is_name_denied : List (List ℕ) → List ℕ → Bool
is_name_denied denied name = list_any (bytes_eq (str_to_ascii_lowercase name)) denied
