-- A device of the proof, which no public contract cites: the places of a pattern behind which nothing closes a set.
use Rattle.std.specs.Prelude.{◌≡◌, ◌≤◌, ◌-◌, ◌/◌, ◌%◌, ℕ, Bool, List, None, length, drop, get_or}
use Rattle.std.specs.Int.{bit_at}
use Rattle.sudoers_match_member.specs.declared.unclosed_places.UnclosedPlaces.{UnclosedPlaces}
use Rattle.sudoers_match_member.specs.Folded.{bytes_case_folded_if_wanted}
use Rattle.sudoers_match_member.specs.Sets.{set_items_after_skipped_bytes}

-- the place that has so many bytes behind it is one of them
abbrev pub IsUnclosedPlace : UnclosedPlaces → ℕ → Type 0
IsUnclosedPlace places left = bit_at (get_or places.words (left / 64) 0) (left % 64) ≡ 1

-- They are right for the pattern.
abbrev pub AreUnclosedPlaces : Bool → List ℕ → UnclosedPlaces → Type 0
AreUnclosedPlaces lower pattern places = (left : ℕ) → left ≤ length pattern → IsUnclosedPlace places left
    → set_items_after_skipped_bytes 0 (bytes_case_folded_if_wanted lower (drop (length pattern - left) pattern)) ≡ None
