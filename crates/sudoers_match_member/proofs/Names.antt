-- Names, letter case ignored.
use Rattle.std.proofs.Common.{◌≡◌, ℕ, Bool, List, map}
use Rattle.std.specs.Prelude.{◌↔◌, IsTrue}
use Rattle.std.proofs.lemmas.Bool.Decides.{same_from_decides}
use Rattle.std.specs.Char.{to_ascii_lowercase}
use Rattle.std.specs.Str.{str_eq_ignore_ascii_case}
use Rattle.std.proofs.lemmas.Slice.Eq.{bytes_eq-Decides}

pub case_folded_equality_is_ignore_case_equality : (a b : List ℕ) (r : Bool) → IsTrue r ↔ (map to_ascii_lowercase a ≡ map to_ascii_lowercase b) → r ≡ str_eq_ignore_ascii_case a b
case_folded_equality_is_ignore_case_equality a b r both =
    same_from_decides r (str_eq_ignore_ascii_case a b) both (bytes_eq-Decides (map to_ascii_lowercase a) (map to_ascii_lowercase b))
