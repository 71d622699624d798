-- Patterns with wildcards, and the texts that they match (sudoers(5), Wildcards).
use Rattle.std.specs.Prelude.{ℕ, zero, suc, ◌+◌, ◌-◌, Bool, true, false, not, ◌&&◌, ◌==◌, List, [], ◌∷◌, map, Option, Some, None, if◌then◌else◌}
use Rattle.std.specs.List.{list_any, list_all}
use Rattle.sudoers_match_member.specs.declared.wildcards.GlobMode.{GlobMode}
use Rattle.sudoers_match_member.specs.declared.wildcards.GlobMode.TheVariants.{Path, Args}
use Rattle.sudoers_match_member.specs.declared.byte_sets.SetItem.{SetItem}
use Rattle.sudoers_match_member.specs.Sets.{is_byte_in_set_item, set_items_behind_opening_bracket}

-- What a pattern is made of: `*`, or something that takes one byte.
pub data PatternItem : Type 0 where
  Star : PatternItem
  Byte : ℕ → PatternItem
  Any : PatternItem
  Set : Bool → List SetItem → PatternItem

-- a wildcard may take the byte
abbrev pub may_wildcard_take : GlobMode → ℕ → Bool
may_wildcard_take Path b = not (b == 47)
may_wildcard_take Args b = true

-- the item takes the byte
abbrev pub is_byte_taken_by_item : GlobMode → PatternItem → ℕ → Bool
is_byte_taken_by_item mode Star b = false
is_byte_taken_by_item mode (Byte c) b = b == c
is_byte_taken_by_item mode Any b = may_wildcard_take mode b
is_byte_taken_by_item mode (Set false items) b = may_wildcard_take mode b && list_any (is_byte_in_set_item b) items
is_byte_taken_by_item mode (Set true items) b = may_wildcard_take mode b && not (list_any (is_byte_in_set_item b) items)

abbrev pub escaped_byte_item : List ℕ → PatternItem × ℕ
escaped_byte_item [] = (Byte 92, 1)
escaped_byte_item (c ∷ cs) = (Byte c, 2)

-- a set, or where nothing closes it a `[`
abbrev pub set_or_bracket_item : Bool → ℕ → Option (List SetItem × ℕ) → PatternItem × ℕ
set_or_bracket_item negated n None = (Byte 91, 1)
set_or_bracket_item negated n (Some set) = (Set negated set.0, n + set.1 + 1)

abbrev pub bracket_item : List ℕ → PatternItem × ℕ
bracket_item [] = (Byte 91, 1)
bracket_item (b ∷ bs) = if b == 33 then set_or_bracket_item true 2 (set_items_behind_opening_bracket bs) else set_or_bracket_item false 1 (set_items_behind_opening_bracket (b ∷ bs))

-- the item that begins these bytes and its length
abbrev pub pattern_item_at : List ℕ → PatternItem × ℕ
pattern_item_at [] = (Star, 1)
pattern_item_at (b ∷ bs) =
    if b == 42 then (Star, 1)
    else (if b == 63 then (Any, 1)
    else (if b == 92 then escaped_byte_item bs
    else (if b == 91 then bracket_item bs
    else (Byte b, 1))))

-- The items of a pattern. So many bytes of one are still to pass.
abbrev pub pattern_items_after_skipped_bytes : ℕ → List ℕ → List PatternItem
pattern_items_after_skipped_bytes k [] = []
pattern_items_after_skipped_bytes (suc k) (b ∷ bs) = pattern_items_after_skipped_bytes k bs
pattern_items_after_skipped_bytes zero (b ∷ bs) = (pattern_item_at (b ∷ bs)).0 ∷ pattern_items_after_skipped_bytes ((pattern_item_at (b ∷ bs)).1 - 1) bs

abbrev pub items_of_pattern : List ℕ → List PatternItem
items_of_pattern pattern = pattern_items_after_skipped_bytes 0 pattern

-- each way to cut a text in two
abbrev pub splits_of_text : List ℕ → List (List ℕ × List ℕ)
splits_of_text [] = ([], []) ∷ []
splits_of_text (b ∷ bs) = ([], b ∷ bs) ∷ map (λ (s : List ℕ × List ℕ). (b ∷ s.0, s.1)) (splits_of_text bs)

abbrev pub is_empty : List ℕ → Bool
is_empty [] = true
is_empty (b ∷ bs) = false

-- `*` matches a run of bytes that it may take, every other item one byte.
abbrev pub is_items_match : GlobMode → List PatternItem → List ℕ → Bool
is_items_match mode [] text = is_empty text
is_items_match mode (Star ∷ items) text =
    list_any (λ (s : List ℕ × List ℕ). list_all (may_wildcard_take mode) s.0 && is_items_match mode items s.1) (splits_of_text text)
is_items_match mode (item ∷ items) [] = false
is_items_match mode (item ∷ items) (b ∷ bs) = is_byte_taken_by_item mode item b && is_items_match mode items bs

-- the text matches the pattern
abbrev pub is_pattern_match : GlobMode → List ℕ → List ℕ → Bool
is_pattern_match mode pattern text = is_items_match mode (items_of_pattern pattern) text
