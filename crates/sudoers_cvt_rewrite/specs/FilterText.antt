-- The text of a filter (cvtsudoers(1), -m): pairs `key=value` with commas between them.
use Rattle.std.specs.Prelude.{ℕ, ◌==◌, ◌||◌, ◌-◌, Bool, true, false, List, [], ◌∷◌, map, codes, drop, take, length, Option, Some, None, Result, Ok, Err, if◌then◌else◌}
use Rattle.std.specs.List.{filter, slice_split, prefix_len, suffix_len}
use Rattle.std.specs.Str.{bytes_eq}
use Rattle.sudoers_grammar.specs.Number.{parts_around_first_byte}
use Rattle.sudoers_cvt_rewrite.specs.declared.filter.Filter.{Filter}
use Rattle.sudoers_cvt_rewrite.specs.declared.filter_text.FilterKey.{FilterKey}
use Rattle.sudoers_cvt_rewrite.specs.declared.filter_text.FilterKey.TheVariants.{User, Group, Host}
use Rattle.sudoers_cvt_rewrite.specs.declared.filter_text.FilterFault.{FilterFault}
use Rattle.sudoers_cvt_rewrite.specs.declared.filter_text.FilterFault.TheVariants.{BadKey, Empty}

-- ---- a pair

abbrev pub is_blank : ℕ → Bool
is_blank b = b == 32 || b == 9

-- the text without the blanks that it begins with, or ends with
abbrev pub text_without_leading_blanks : List ℕ → List ℕ
text_without_leading_blanks text = drop (prefix_len is_blank text) text

abbrev pub text_without_trailing_blanks : List ℕ → List ℕ
text_without_trailing_blanks text = take (length text - suffix_len is_blank text) text

abbrev pub text_without_outer_blanks : List ℕ → List ℕ
text_without_outer_blanks text = text_without_trailing_blanks (text_without_leading_blanks text)

abbrev pub filter_key_named : List ℕ → Option FilterKey
filter_key_named word =
    if bytes_eq word (codes "user") then Some User
    else if bytes_eq word (codes "group") then Some Group
    else if bytes_eq word (codes "host") then Some Host
    else None

-- A value has a byte.
abbrev pub filter_pair_or_fault_of_empty_value : FilterKey → List ℕ → Result (FilterKey × List ℕ) FilterFault
filter_pair_or_fault_of_empty_value key [] = Err Empty
filter_pair_or_fault_of_empty_value key (b ∷ value) = Ok (key, b ∷ value)

abbrev pub filter_pair_of_key : Option FilterKey → List ℕ → Result (FilterKey × List ℕ) FilterFault
filter_pair_of_key None value = Err BadKey
filter_pair_of_key (Some key) value = filter_pair_or_fault_of_empty_value key value

abbrev pub filter_pair_of_parts : Option (List ℕ × List ℕ) → Result (FilterKey × List ℕ) FilterFault
filter_pair_of_parts None = Err BadKey
filter_pair_of_parts (Some parts) = filter_pair_of_key (filter_key_named (text_without_outer_blanks parts.0)) (text_without_outer_blanks parts.1)

-- The key stands before the first `=`, and the value behind it.
abbrev pub filter_pair_of_piece : List ℕ → Result (FilterKey × List ℕ) FilterFault
filter_pair_of_piece piece = filter_pair_of_parts (parts_around_first_byte 61 piece)

-- ---- the pairs

-- The first fault counts.
abbrev pub pair_before_pairs_or_first_fault : Result (FilterKey × List ℕ) FilterFault → Result (List (FilterKey × List ℕ)) FilterFault → Result (List (FilterKey × List ℕ)) FilterFault
pair_before_pairs_or_first_fault (Err fault) pairs = Err fault
pair_before_pairs_or_first_fault (Ok pair) (Ok pairs) = Ok (pair ∷ pairs)
pair_before_pairs_or_first_fault (Ok pair) (Err fault) = Err fault

abbrev pub filter_pairs_of_pieces : List (List ℕ) → Result (List (FilterKey × List ℕ)) FilterFault
filter_pairs_of_pieces [] = Ok []
filter_pairs_of_pieces (piece ∷ pieces) = pair_before_pairs_or_first_fault (filter_pair_of_piece piece) (filter_pairs_of_pieces pieces)

-- ---- the filter

abbrev pub is_same_key : FilterKey → FilterKey → Bool
is_same_key User User = true
is_same_key Group Group = true
is_same_key Host Host = true
is_same_key key other = false

-- the values with this key, in their order
abbrev pub values_with_filter_key : FilterKey → List (FilterKey × List ℕ) → List (List ℕ)
values_with_filter_key key pairs = map (λ (p : FilterKey × List ℕ). p.1) (filter (λ (p : FilterKey × List ℕ). is_same_key key p.0) pairs)

abbrev pub filter_of_pairs : Result (List (FilterKey × List ℕ)) FilterFault → Result Filter FilterFault
filter_of_pairs (Err fault) = Err fault
filter_of_pairs (Ok pairs) = Ok (record { users = values_with_filter_key User pairs; groups = values_with_filter_key Group pairs; hosts = values_with_filter_key Host pairs })

-- what the text of a filter says
abbrev pub filter_read_from_text : List ℕ → Result Filter FilterFault
filter_read_from_text text = filter_of_pairs (filter_pairs_of_pieces (slice_split (λ b. b == 44) text))
