-- Members that are found by their numbers. A device of the code, which no public contract cites.
use Rattle.std.specs.Prelude.{◌≡◌, ◌==◌, ℕ, Bool, false, List, Option, None}
use Rattle.std.specs.List.{list_any}
use Rattle.sudoers_match_list.specs.Flat.{SignedAtom}
use Rattle.sudoers_compare.specs.AtomNumbers.{atom_number}

abbrev pub has_number : ℕ → SignedAtom → Bool
has_number number s = number == atom_number s.atom

-- Where no member is found for a number, none has it.
abbrev pub IsIndexOf : (ℕ → Option ℕ) → List SignedAtom → Type 0
IsIndexOf find fs = (number : ℕ) → find number ≡ None → list_any (has_number number) fs ≡ false
