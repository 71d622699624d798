-- A device of the proof, which no public contract cites: the places of a text from which the items of a pattern may match.
use Rattle.std.specs.Prelude.{◌≡◌, ◌≢◌, ◌<◌, ◌≤◌, ◌+◌, ◌/◌, ◌%◌, ◌⊎◌, ℕ, Bool, true, List, [], length, drop, get_or}
use Rattle.std.specs.Int.{bit_at}
use Rattle.sudoers_match_member.specs.declared.item_set.ItemSet.{ItemSet}
use Rattle.sudoers_match_member.specs.declared.place_search.ItemRow.{ItemRow}
use Rattle.sudoers_match_member.specs.declared.wildcards.GlobMode.{GlobMode}
use Rattle.sudoers_match_member.specs.Folded.{byte_case_folded_if_wanted, bytes_case_folded_if_wanted}
use Rattle.sudoers_match_member.specs.Wildcard.{PatternItem, Star, is_byte_taken_by_item, items_of_pattern}
use Rattle.sudoers_match_member.specs.internal.Run.{DoesPatternMatch}

-- the item is one of them
abbrev pub HasItem : ItemSet → ℕ → Type 0
HasItem set item = bit_at (get_or set.words (item / 64) 0) (item % 64) ≡ 1

abbrev pub no_items : ItemSet
no_items = record { words = [] }

-- the item is one of those that take the byte
abbrev pub IsTaker : List ItemSet → ℕ → ℕ → Type 0
IsTaker takers b item = HasItem (get_or takers b no_items) item

-- the item is one of those that take the byte, or of those that take each byte
abbrev pub IsTakerOrOfAll : List ItemSet → ItemSet → ℕ → ℕ → Type 0
IsTakerOrOfAll takers of_all b item = IsTaker takers b item ⊎ HasItem of_all item

-- the items of a pattern behind so many of its bytes
abbrev pub items_from_place : Bool → List ℕ → ℕ → List PatternItem
items_from_place lower pattern at = items_of_pattern (drop at (bytes_case_folded_if_wanted lower pattern))

-- so many of the items are no `*`
abbrev pub BeginWithStarless : List PatternItem → ℕ → Type 0
BeginWithStarless items count = (i : ℕ) → i < count → get_or items i Star ≢ Star

-- Each of so many items is a taker of each byte that it takes, as the byte is read.
abbrev pub AreTakersOfItems : GlobMode → Bool → List PatternItem → ℕ → List ItemSet → Type 0
AreTakersOfItems mode lower items count takers = (i b : ℕ) → i < count → b < 256 → is_byte_taken_by_item mode (get_or items i Star) (byte_case_folded_if_wanted lower b) ≡ true → IsTaker takers b i

-- The items of the pattern from this place on, and which of them take a byte.
pub record IsItemRow (mode : GlobMode) (lower : Bool) (pattern : List ℕ) (at : ℕ) (row : ItemRow) : Type 0 where
  pub few : row.count ≤ 256
  pub within : row.end ≤ length pattern
  pub further : at + row.count ≤ row.end
  pub rest : drop row.count (items_from_place lower pattern at) ≡ items_from_place lower pattern row.end
  pub starless : BeginWithStarless (items_from_place lower pattern at) row.count
  pub takers : AreTakersOfItems mode lower (items_from_place lower pattern at) row.count row.takers

-- each of so many items is a taker of a byte of the text, the first of the byte at this place
abbrev pub DoTakersTakeFrom : List ItemSet → ℕ → List ℕ → ℕ → Type 0
DoTakersTakeFrom takers count text place = (i : ℕ) → i < count → IsTaker takers (get_or text (place + i) 0) i

-- the pattern matches the text from this place on
abbrev pub DoesMatchFrom : GlobMode → Bool → List ℕ → List ℕ → ℕ → Type 0
DoesMatchFrom mode lower pattern text place = DoesPatternMatch mode (bytes_case_folded_if_wanted lower pattern) (drop place (bytes_case_folded_if_wanted lower text))

-- it does so from no place before this one
abbrev pub DoesMatchFromNoneBefore : GlobMode → Bool → List ℕ → List ℕ → ℕ → Type 0
DoesMatchFromNoneBefore mode lower pattern text stop = (place : ℕ) → place < stop → DoesMatchFrom mode lower pattern text place → ⊥
